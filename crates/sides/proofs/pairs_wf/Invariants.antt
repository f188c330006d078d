-- Invariant: no pair below l is bad; a search that finds none. Assumes nothing.
use Prim.Native.Nat.{ℕ, ◌<◌}
use mathlib.Core.Path.{◌≡◌}
use mathlib.Core.Bool.{false}
use Rattle.rules.specs.Rule.{pair_bad}
use Rattle.sides.proofs.pairs_wf.Given as goal

abbrev pub invariant-loop-l : goal.invariant-loop-l
invariant-loop-l l = (j : ℕ) → j < l.l → pair_bad l.iw l.cw l.ws l.side l.s j ≡ false
