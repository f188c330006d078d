-- Invariant: the offset is an entry's, and the test says no at each entry before it. Assumes nothing.
use Prim.Native.Nat.{◌*◌, ◌-◌}
use mathlib.Core.Bool.{false}
use Rattle.keys.proofs.Search.{Searched}
use Rattle.keys.proofs.found_before.Given as goal

abbrev pub invariant-loop-off : goal.invariant-loop-off
invariant-loop-off g l = Searched (λ i. g.F.Fn.post l.is (i * g.row.SIZE, tt) false) g.row.SIZE l.k l.off

abbrev pub decreases-loop-off : goal.decreases-loop-off
decreases-loop-off g l = l.k * g.row.SIZE - l.off
