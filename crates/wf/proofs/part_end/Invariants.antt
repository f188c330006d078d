-- Invariant: the rows before i, from the first on, that read, read this array. Assumes nothing.
use Prim.Native.Nat.{ℕ, ◌≤◌, ◌<◌}
use mathlib.Core.Path.{◌≡◌}
use lib.ListN.{get_or}
use Rattle.rows.specs.Row.{row_at}
use Rattle.rows.specs.Tags.{t_select}
use Rattle.wf.proofs.part_end.Given as goal

abbrev pub invariant-loop-i : goal.invariant-loop-i
invariant-loop-i l =
    (j : ℕ) → j < l.i → l.from ≤ j → get_or (row_at l.graph l.g j) 0 0 ≡ t_select → get_or (row_at l.graph l.g j) 1 0 ≡ l.array
