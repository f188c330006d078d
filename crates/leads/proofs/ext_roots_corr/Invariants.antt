-- Invariant: every source root before k has its image in its place; the loop is the search `first`. Assumes nothing.
use Prim.Native.Nat.{ℕ, ◌<◌}
use mathlib.Core.Path.{◌≡◌}
use mathlib.Core.Bool.{false, not}
use Rattle.lowering.specs.Roots.{leads}
use Rattle.leads.proofs.ext_roots_corr.Given as goal

abbrev pub invariant-loop-k : goal.invariant-loop-k
invariant-loop-k l = (j : ℕ) → j < l.k → not (leads l.map l.eroots l.troots j) ≡ false
