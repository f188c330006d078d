-- A walk along the roots of some pairs, and what a read table that has passed says of its entries.
-- Inner: contracts within the code cite it; no answer's definition does. Assumes nothing.
use Rattle.std.specs.Prelude.{ℕ, ◌+◌, ◌*◌, ◌<◌, ◌≤◌, Bool, cond, List, eqb, length, Result, Ok, Err}
use Rattle.rows.specs.declared.Graph.TheVariants.{Target}
use Rattle.rows.specs.Row.{row_count}
use Rattle.lowering.specs.Tables.{read_count, read_index}
use Rattle.lowering.specs.Roots.{Pair, bad_cong}

-- a position behind roots that all stand, or one where none does
abbrev pub stood : Bool → ℕ → Result ℕ ℕ
stood all next = cond all (Ok next) (Err next)

-- the roots of the pairs stand from a position on: the position after them, or that of the first that does not stand
unfoldable pub walked : List ℕ → (ℕ → Pair → Bool) → ℕ → List Pair → Result ℕ ℕ
walked troots test from ps = stood (eqb (bad_cong troots test from ps) (length ps)) (from + bad_cong troots test from ps)

-- every entry is whole and its index is a row of the target
abbrev pub ReadsIn : List ℕ → List ℕ → Type 0
ReadsIn reads target = (k : ℕ) → k < read_count reads → (k * 3 + 3 ≤ length reads) × (read_index reads k < row_count Target target)
