-- Invariant: the list is the numbers so far and the rest as it was; each row is ready when its turn comes. Assumes nothing.
use Rattle.std.proofs.Common.{◌≡◌, ◌++◌, drop}
use Rattle.value.specs.Graph.{numbers_to}
use Rattle.evaluate.proofs.evaluate.Given as goal

abbrev pub invariant-loop-i : goal.invariant-loop-i
invariant-loop-i l = l.vs ≡ numbers_to l.g l.bits l.given l.i ++ drop l.i l.initial.vs
