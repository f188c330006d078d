-- Invariant: the entries before k are good. Assumes nothing.
use Prim.Native.Nat.{ℕ, ◌<◌}
use mathlib.Core.Path.{◌≡◌}
use mathlib.Core.Bool.{true}
use Rattle.sorts.specs.Sorts.{sort_good}
use Rattle.sorts.proofs.sort_answer.Given as goal

abbrev pub invariant-loop-k : goal.invariant-loop-k
invariant-loop-k l = (j : ℕ) → j < l.k → sort_good l.table j ≡ true
