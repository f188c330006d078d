-- Invariant: no byte so far is above the largest. Assumes nothing.
use Prim.Native.Nat.{ℕ, ◌≤◌, ◌<◌}
use lib.ListN.{get_or}
use Rattle.encoding.proofs.largest.Given as goal

abbrev pub invariant-loop-bit : goal.invariant-loop-bit
invariant-loop-bit l = (j : ℕ) → j < l.bit-index → get_or l.bits j 0 ≤ l.most
