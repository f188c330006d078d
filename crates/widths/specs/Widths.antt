-- The operations Source widths, Target widths and Roots (01, 'Operations and what they refuse'). Assumes nothing.
use Rattle.std.specs.Prelude.{ℕ, cond, List, [], ◌∷◌, ltb, length}
use Rattle.sorts.specs.Sorts.{Edition, first_edition, second_edition, sorts_of, sort_answer}
use Rattle.answers.specs.Answer.{Answer}
use Rattle.answers.specs.Answer.{Accepted, RowCount, WorkShort, BadRoot}
use Rattle.answers.specs.Result.{Result, leaves}
use Rattle.rows.specs.declared.Graph.{Graph}
use Rattle.rows.specs.declared.Graph.TheVariants.{Source, Target}
use Rattle.rows.specs.Row.{graph_number, row_count, ragged}
use Rattle.refusals.specs.Rows.{rows_answer_by}
use Rattle.wf.specs.Widths.{ill_row, widths, bad_root}

-- "15, 18, 16, 17, then 1 or 2", over a lent list with room for some words, with 28 after 17 where an edition has a sort table (02, 2.9). "With
-- Check's places": 18 names the source's list by 1, the target's by 2
abbrev pub widths_answer : Edition → Graph → List ℕ → List ℕ → List ℕ → ℕ → Answer
widths_answer E graph g bits side room =
    cond (ragged graph g) (RowCount (graph_number graph))
    (cond (ltb room (row_count graph g)) (WorkShort (graph_number graph))
    (rows_answer_by (sort_answer E) graph g bits (ill_row (sorts_of E) graph (length bits) side g)))

-- the whole outcome over the edition, the words of the graph, its bits, its side list and the list lent
abbrev pub graph_widths : Edition → Graph → List ℕ → List ℕ → List ℕ → List ℕ → Result
graph_widths E graph g bits side ws =
    let a = widths_answer E graph g bits side (length ws) in
    leaves a ((ws, widths (sorts_of E) graph (length bits) side g) ∷ [])

abbrev pub source_widths : List ℕ → List ℕ → List ℕ → List ℕ → Result
source_widths source bits side ws = graph_widths first_edition Source source bits side ws

-- the same with a sort table (02, 2.9)
abbrev pub source_widths_with_sorts : List ℕ → List ℕ → List ℕ → List ℕ → List ℕ → Result
source_widths_with_sorts source bits side sorts ws = graph_widths (second_edition sorts) Source source bits side ws

abbrev pub target_widths : List ℕ → List ℕ → List ℕ → Result
target_widths target bits ws = graph_widths first_edition Target target bits [] ws

-- "19 BadRoot (list position) for a row past the widths or a width not 1"
abbrev pub roots_answer : List ℕ → List ℕ → Answer
roots_answer ws roots = cond (ltb (bad_root ws roots) (length roots)) (BadRoot (bad_root ws roots) 0) Accepted
