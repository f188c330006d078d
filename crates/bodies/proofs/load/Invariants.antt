-- Invariant: the words of the first i sections stand in front and end at a place, the rest is as it was. Assumes nothing.
use Rattle.std.proofs.Common.{◌≡◌, length}
use Rattle.bodies.specs.Words.{loaded}
use Rattle.bodies.proofs.Words.{filled}
use Rattle.bodies.proofs.load.Given as goal

abbrev pub invariant-loop-i : goal.invariant-loop-i
invariant-loop-i l = record { ends : l.at ≡ length (loaded l.book.bytes.now l.i); stands : l.words ≡ filled l.book.bytes.now l.initial.words l.i }
