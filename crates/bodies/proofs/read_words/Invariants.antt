-- Invariant: the first j words are read, the rest is as it was. Assumes nothing.
use Rattle.std.proofs.Common.{◌≡◌}
use Rattle.bodies.proofs.Words.{read}
use Rattle.bodies.proofs.read_words.Given as goal

abbrev pub invariant-loop-j : goal.invariant-loop-j
invariant-loop-j l = l.out ≡ read l.bytes l.initial.out l.j
