-- Invariant: the sum so far is the number of words of the first k sections. Assumes nothing.
use Rattle.std.proofs.Common.{◌≡◌, length}
use Rattle.bodies.specs.Words.{loaded}
use Rattle.bodies.proofs.offset.Given as goal

abbrev pub invariant-loop-k : goal.invariant-loop-k
invariant-loop-k l = l.at ≡ length (loaded l.book.bytes.now l.k)
