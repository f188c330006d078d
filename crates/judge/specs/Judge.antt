-- The verdict on a book (01, 'Section of a book'), and the strict one (02, 2.6). Assumes nothing.
use Rattle.std.specs.Prelude.{ℕ, Bool, true, false, cond, List, [], ◌∷◌, ltb, length}
use Rattle.answers.specs.Answer.{Answer}
use Rattle.answers.specs.Answer.{WorkShort, BookShape}
use Rattle.answers.specs.Answer.{and_then}
use Rattle.answers.specs.Result.{Result, leaves}
use Rattle.book.specs.Book.{book_answer}
use Rattle.loaded.specs.Held.{held, book_words}
use Rattle.lowering.specs.Lowering.{source_rows, target_rows}
use Rattle.lowering.specs.Check.{widths_of_source, widths_of_target, classes, offsets, refuse, first_refusal, count_answers, check_answer_by}

-- 20; then as Check, or the strict check, on the book's lists, with room for some words in its four lists. A fifth list takes the book's words: "one
-- too short is 18 by its place in the order lent", with Check's own 15 and 18 before it
abbrev pub judge_answer_by : Bool → List ℕ → ℕ → ℕ → ℕ → ℕ → ℕ → Answer
judge_answer_by strict b w0 w1 c e room =
    and_then (book_answer b)
    (and_then (first_refusal (count_answers (held b).source (held b).target w0 w1 c e))
    (and_then (refuse (ltb room (length (book_words b))) (WorkShort 5)) (check_answer_by strict (held b) w0 w1 c e)))

-- "15 and 18 write nothing, other refusals zero all that is lent for writing; acceptance leaves zeros past what it wrote": Check's lists and the
-- book's words
abbrev pub judge_by : Bool → List ℕ → List ℕ → List ℕ → List ℕ → List ℕ → List ℕ → Result
judge_by strict b ws0 ws1 cls ent words =
    let a = judge_answer_by strict b (length ws0) (length ws1) (length cls) (length ent) (length words) in
    let L = held b in
    leaves a
    ((ws0, widths_of_source L) ∷ (ws1, widths_of_target L) ∷ (cls, classes L (source_rows L)) ∷ (ent, offsets L) ∷ (words, book_words b) ∷ [])

abbrev pub judge : List ℕ → List ℕ → List ℕ → List ℕ → List ℕ → List ℕ → Result
judge b ws0 ws1 cls ent words = judge_by false b ws0 ws1 cls ent words

abbrev pub strict_judge : List ℕ → List ℕ → List ℕ → List ℕ → List ℕ → List ℕ → Result
strict_judge b ws0 ws1 cls ent words = judge_by true b ws0 ws1 cls ent words

-- "reads a book of at most 65,536 bytes from standard input (longer: 20, place 13)"
abbrev pub longest : ℕ
longest = 65536

-- what the program answers: 20, or the check's answer on the book's lists, with work lists as long as their graphs
abbrev pub verdict_by : Bool → List ℕ → Answer
verdict_by strict b =
    let L = held b in
    cond (ltb longest (length b)) (BookShape 13)
    (and_then (book_answer b) (check_answer_by strict L (source_rows L) (target_rows L) (target_rows L) (target_rows L)))

abbrev pub verdict : List ℕ → Answer
verdict b = verdict_by false b

abbrev pub strict_verdict : List ℕ → Answer
strict_verdict b = verdict_by true b
