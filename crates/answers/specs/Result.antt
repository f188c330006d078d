-- What an operation leaves: its answer and its lent lists (01, 'Operations and what they refuse'). Assumes nothing.
use Rattle.std.specs.Prelude.{ℕ, List, [], ◌∷◌}
use Rattle.answers.specs.declared.Words.{Words}
use Rattle.answers.specs.Answer.{Answer, words_of, lent}

-- an answer and what stands in the lent lists afterwards, in the order lent
pub record Result : Type 0 where
  pub answer : Answer
  pub lists : List (List ℕ)

abbrev pub result_of : Answer → List (List ℕ) → Result
result_of a lists = record { answer = a; lists = lists }

-- each lent list by what it held and what acceptance writes
abbrev pub left : Answer → List (List ℕ × List ℕ) → List (List ℕ)
left a [] = []
left a (list ∷ lists) = lent a list.0 list.1 ∷ left a lists

-- an operation's result: its answer, and the lists that it leaves
abbrev pub leaves : Answer → List (List ℕ × List ℕ) → Result
leaves a lists = result_of a (left a lists)

-- the same for callers that take numbers: number, place and detail
pub record Told : Type 0 where
  pub words : Words
  pub lists : List (List ℕ)

abbrev pub told : Words → List (List ℕ) → Told
told w lists = record { words = w; lists = lists }

abbrev pub told_of : Result → Told
told_of r = told (words_of r.answer) r.lists
