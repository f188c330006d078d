-- Invariant: no row below i is bad; the search `first`, begun at `from`. Assumes nothing.
use Prim.Native.Nat.{ℕ, ◌<◌}
use mathlib.Core.Path.{◌≡◌}
use mathlib.Core.Bool.{false}
use Rattle.encoding.specs.Encoding.{row_bad}
use Rattle.encoding.proofs.bad_row.Given as goal

abbrev pub invariant-loop-i : goal.invariant-loop-i
invariant-loop-i l = (j : ℕ) → j < l.i → row_bad l.graph l.g j ≡ false
