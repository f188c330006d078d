-- Invariant: no root below r is bad; the search `first`. Assumes nothing.
use Prim.Native.Nat.{ℕ, ◌<◌}
use mathlib.Core.Path.{◌≡◌}
use mathlib.Core.Bool.{false}
use Rattle.wf.specs.Widths.{root_bad}
use Rattle.wf.proofs.roots_wf.Given as goal

abbrev pub invariant-loop-r : goal.invariant-loop-r
invariant-loop-r l = (j : ℕ) → j < l.r → root_bad l.ws l.roots j ≡ false
