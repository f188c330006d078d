-- Where a row's bits lie.
-- Inner: contracts within the code cite it; no answer's definition does. Assumes nothing.
use Rattle.std.specs.Prelude.{ℕ, ◌+◌, ◌<◌, ◌≤◌, ◌≡◌, List, length, get_or}
use Rattle.rows.specs.declared.Graph.{Graph}
use Rattle.rows.specs.Row.{row_count, row_at}
use Rattle.rows.specs.Tags.{t_const}

-- the bits of a row that is a constant lie in the list
abbrev pub BitsWithin : List ℕ → List ℕ → Type 0
BitsWithin bits r = get_or r 0 0 ≡ t_const → get_or r 1 0 + get_or r 2 0 ≤ length bits

-- the bits of a graph's constants lie in its bit list
abbrev pub ConstsWithin : Graph → List ℕ → List ℕ → Type 0
ConstsWithin graph bits g = (a : ℕ) → a < row_count graph g → BitsWithin bits (row_at graph g a)
