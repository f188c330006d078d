-- The refusals for a graph's rows, in 01's order ('Operations and what they refuse'). Assumes nothing.
use Rattle.std.specs.Prelude.{ℕ, cond, List, ltb, length}
use Rattle.answers.specs.Answer.{Answer}
use Rattle.answers.specs.Answer.{Accepted, Ext, Core, BadRow, BadBit}
use Rattle.answers.specs.Answer.{and_then}
use Rattle.rows.specs.declared.Graph.{Graph}
use Rattle.rows.specs.declared.Graph.TheVariants.{Source, Target}
use Rattle.rows.specs.Row.{graph_number, row_count}
use Rattle.encoding.specs.Encoding.{bad_row, bad_bit}

-- "1 Ext (row); 2 Core (row)"
abbrev pub ill_formed : Graph → ℕ → Answer
ill_formed Source row = Ext row
ill_formed Target row = Core row

-- 16, 17, the answer on the sort table ("28 SortTable .. after 17", 02, 2.9), then the row named as ill-formed, if it is a row: each is looked for
-- everywhere before the next
abbrev pub rows_answer_by : Answer → Graph → List ℕ → List ℕ → ℕ → Answer
rows_answer_by sort graph g bits ill =
    let n = row_count graph g in
    cond (ltb (bad_row graph g) n) (BadRow (bad_row graph g) (graph_number graph))
    (cond (ltb (bad_bit bits) (length bits)) (BadBit (bad_bit bits) (graph_number graph))
    (and_then sort (cond (ltb ill n) (ill_formed graph ill) Accepted)))

-- where there is no table
abbrev pub rows_answer : Graph → List ℕ → List ℕ → ℕ → Answer
rows_answer graph g bits ill = rows_answer_by Accepted graph g bits ill
