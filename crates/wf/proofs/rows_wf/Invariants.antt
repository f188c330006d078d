-- Invariant: under any sorts that are one for the reads here, the pass is at row i if it was at the first. Assumes nothing.
use Prim.Native.Nat.{ℕ}
use mathlib.Core.Path.{◌≡◌}
use mathlib.Core.List.{List}
use lib.ListN.{length}
use Rattle.sorts.specs.Sorts.{Sorts}
use Rattle.wf.specs.Pass.{OneSort, Reached}
use Rattle.wf.proofs.rows_wf.Given as goal

abbrev pub invariant-loop-i : goal.invariant-loop-i
invariant-loop-i l =
    (length l.ws ≡ length l.initial.ws) ×
    ((σ : Sorts) (base : List ℕ) → OneSort σ l.graph l.g l.from l.to l.sort.index l.sort.cell
    → Reached σ l.graph l.nbits l.side l.g base l.initial.ws l.from → Reached σ l.graph l.nbits l.side l.g base l.ws l.i)
