-- Invariant: no word below i is bad; word i itself ends the search. Assumes nothing.
use Rattle.std.proofs.Common.{◌≡◌, ℕ, ◌<◌, false}
use Rattle.inputs.specs.Inputs.{word_bad}
use Rattle.inputs.proofs.bad_word.Given as goal

abbrev pub invariant-loop-i : goal.invariant-loop-i
invariant-loop-i l = (j : ℕ) → j < l.i → word_bad l.g l.given j ≡ false
