-- The widths of a graph's rows, in order, and its first ill-formed row. Assumes nothing.
use Rattle.std.specs.Prelude.{ℕ, Bool, not, List, eqb, length, get_or}
use Rattle.lists.specs.First.{first}
use Rattle.lists.specs.Build.{build}
use Rattle.sorts.specs.Sorts.{Sorts}
use Rattle.rows.specs.declared.Graph.{Graph}
use Rattle.rows.specs.Row.{row_count, row_at}
use Rattle.rows.specs.Node.{node_of}
use Rattle.rules.specs.Rule.{node_width, has_width}

-- the width of row i after rows of widths ws, where σ are the sorts of the arrays
abbrev pub row_width : Sorts → Graph → ℕ → List ℕ → List ℕ → ℕ → List ℕ → ℕ
row_width σ graph nbits side g i ws = node_width σ nbits side ws (node_of (row_at graph g i))

-- the widths of the first n rows, 0 for an ill-formed one
abbrev pub widths_to : Sorts → Graph → ℕ → List ℕ → List ℕ → ℕ → List ℕ
widths_to σ graph nbits side g n = build (row_width σ graph nbits side g) n

abbrev pub row_ill : Sorts → Graph → ℕ → List ℕ → List ℕ → ℕ → Bool
row_ill σ graph nbits side g i = eqb (row_width σ graph nbits side g i (widths_to σ graph nbits side g i)) 0

-- the first ill-formed row, or the number of rows
abbrev pub ill_row : Sorts → Graph → ℕ → List ℕ → List ℕ → ℕ
ill_row σ graph nbits side g = first (row_ill σ graph nbits side g) (row_count graph g)

-- the widths of all rows
abbrev pub widths : Sorts → Graph → ℕ → List ℕ → List ℕ → List ℕ
widths σ graph nbits side g = widths_to σ graph nbits side g (row_count graph g)

-- 19: "a row past the widths or a width not 1"
abbrev pub root_bad : List ℕ → List ℕ → ℕ → Bool
root_bad ws roots k = not (has_width ws (get_or roots k 0) 1)

-- the first bad root's position, or the number of roots
abbrev pub bad_root : List ℕ → List ℕ → ℕ
bad_root ws roots = first (root_bad ws roots) (length roots)
