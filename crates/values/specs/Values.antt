-- The operation Values of a target graph (01, 'Operations and what they refuse'). Assumes nothing.
use Rattle.std.specs.Prelude.{ℕ, cond, List, [], ◌∷◌, ltb, length}
use Rattle.sorts.specs.Sorts.{plain}
use Rattle.answers.specs.Answer.{Answer}
use Rattle.answers.specs.Answer.{RowCount, WorkShort}
use Rattle.answers.specs.Answer.{and_then}
use Rattle.answers.specs.Result.{Result, leaves}
use Rattle.rows.specs.declared.Graph.TheVariants.{Target}
use Rattle.rows.specs.Row.{graph_number, row_count, ragged}
use Rattle.value.specs.Graph.{numbers_to}
use Rattle.wf.specs.Widths.{ill_row, widths}
use Rattle.refusals.specs.Rows.{rows_answer}
use Rattle.inputs.specs.Inputs.{given_answer}

-- "15; 18 (1 widths, 2 values); 16; 17; 2; 21; 22; 23", over lent lists with room for some words each
abbrev pub values_answer : List ℕ → List ℕ → List ℕ → ℕ → ℕ → Answer
values_answer g bits given room room-too =
    cond (ragged Target g) (RowCount (graph_number Target))
    (cond (ltb room (row_count Target g)) (WorkShort 1)
    (cond (ltb room-too (row_count Target g)) (WorkShort 2)
    (and_then (rows_answer Target g bits (ill_row plain Target (length bits) [] g)) (given_answer g (widths plain Target (length bits) [] g) given))))

-- the whole outcome over the words of the target, its bits, the words given and the lists lent
abbrev pub values : List ℕ → List ℕ → List ℕ → List ℕ → List ℕ → Result
values g bits given ws vs =
    let a = values_answer g bits given (length ws) (length vs) in
    leaves a ((ws, widths plain Target (length bits) [] g) ∷ (vs, numbers_to g bits given (row_count Target g)) ∷ [])
