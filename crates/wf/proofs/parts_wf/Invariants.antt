-- Invariant: the pass is at row i. Assumes nothing.
use Prim.Native.Nat.{◌≤◌, ◌-◌}
use Rattle.rows.specs.Row.{row_count}
use Rattle.sorts.specs.Sorts.{second_edition, sorts_of}
use Rattle.wf.specs.Pass.{Reached}
use Rattle.wf.proofs.parts_wf.Given as goal

abbrev pub invariant-loop-i : goal.invariant-loop-i
invariant-loop-i l =
    (l.i ≤ row_count l.graph l.g) × Reached (sorts_of (second_edition l.table)) l.graph l.nbits l.side l.g l.initial.ws l.ws l.i

abbrev pub decreases-loop-i : goal.decreases-loop-i
decreases-loop-i l = l.n - l.i
