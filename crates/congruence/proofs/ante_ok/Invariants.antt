-- Invariant: the nest that is left, from row cur with l equalities, says what the whole says. Assumes nothing.
use Prim.Native.Nat.{◌<◌, ◌-◌, ◌+◌}
use mathlib.Core.Path.{◌≡◌}
use lib.ListN.{get_or}
use Rattle.lowering.specs.Roots.{all_equal}
use Rattle.congruence.proofs.ante_ok.Given as goal

abbrev pub invariant-loop-l : goal.invariant-loop-l
invariant-loop-l l =
    (0 < l.l) × (all_equal l.target (λ i. get_or l.cargs (l.sp + i) 0) (λ i. get_or l.cargs (l.sq + i) 0) (l.k - 1) l.a
    ≡ all_equal l.target (λ i. get_or l.cargs (l.sp + i) 0) (λ i. get_or l.cargs (l.sq + i) 0) (l.l - 1) l.cur)
