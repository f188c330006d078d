-- A case for each line so far, and no more disagreements than cases. Assumes nothing.
use Rattle.std.proofs.Common.{◌≡◌, ◌≤◌, length}
use Rattle.replay.proofs.replay.Given as goal

abbrev pub invariant-loop-line : goal.invariant-loop-line
invariant-loop-line l = record { counted : l.c.cases ≡ length l.yielded; bounded : l.c.wrong ≤ l.c.cases }
