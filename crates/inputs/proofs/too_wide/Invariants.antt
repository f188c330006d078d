-- Invariant: no row below i is wider than 64 bits; row i itself ends the search. Assumes nothing.
use Rattle.std.proofs.Common.{◌≡◌, ℕ, ◌<◌, false}
use Rattle.inputs.specs.Inputs.{row_wide}
use Rattle.inputs.proofs.too_wide.Given as goal

abbrev pub invariant-loop-i : goal.invariant-loop-i
invariant-loop-i l = (j : ℕ) → j < l.i → row_wide l.ws j ≡ false
