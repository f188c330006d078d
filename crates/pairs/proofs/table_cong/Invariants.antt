-- Invariant: the pairs from entry k on give what all pairs give. Assumes nothing.
use Prim.Native.Nat.{ℕ, ◌+◌, ◌-◌, ◌<◌}
use mathlib.Core.Path.{◌≡◌}
use mathlib.Core.Bool.{Bool}
use mathlib.Core.List.{List}
use Rattle.std.specs.declared.result.Result.{Result}
use Rattle.lowering.specs.Roots.{Pair, pairs_with}
use Rattle.pairs.specs.Walk.{walked}
use Rattle.pairs.proofs.Walk.{TableKept}
use Rattle.pairs.proofs.table_cong.Given as goal

abbrev pub invariant-loop-k : goal.invariant-loop-k
invariant-loop-k g l =
    (troots : List ℕ) (test : ℕ → Pair → Bool) (needs : ℕ → ℕ → Bool)
    → ((k idx : ℕ) (r : Result ℕ ℕ) → k < l.n → g.F.Fn.post l.row (k, (idx, tt)) r
    → r ≡ walked troots test idx (pairs_with needs k (k + 1) (l.n - (k + 1))))
    → TableKept troots test needs l.n l.idx0 l.idx l.k
