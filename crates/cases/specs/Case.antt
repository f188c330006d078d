-- What a case says. Its words: operation, number of lists, the lists, number place detail, number of lent lists, and the lent
-- lists after the call. A list is its count and its words. Assumes nothing.
use Rattle.std.specs.Prelude.{ℕ, zero, suc, ◌+◌, min, Bool, false, cond, List, eqb, length, get_or, take, drop}
use Rattle.answers.specs.declared.Words.{Words}

-- a line has at most so many words, and so has each of its lists
abbrev pub room : ℕ
room = 1024

-- the place after the list whose count stands at a place; one past the end where the list would run past it
abbrev pub after : List ℕ → ℕ → ℕ
after w at = min (at + 1 + get_or w at 0) (length w + 1)

-- the place after k lists
unfoldable pub after_lists : List ℕ → ℕ → ℕ → ℕ
after_lists w at zero = at
after_lists w at (suc k) = after_lists w (after w at) k

-- the words of the list whose count stands at a place
unfoldable pub list_at : List ℕ → ℕ → List ℕ
list_at w at = take (get_or w at 0) (drop (at + 1) w)

-- list k of the call
abbrev pub given : List ℕ → ℕ → List ℕ
given w k = list_at w (after_lists w 2 k)

-- where the expected answer stands
abbrev pub answer_at : List ℕ → ℕ
answer_at w = after_lists w 2 (get_or w 1 0)

-- the expected number, place and detail
unfoldable pub answer : List ℕ → Words
answer w = record { number = get_or w (answer_at w) 0; place = get_or w (answer_at w + 1) 0; detail = get_or w (answer_at w + 2) 0 }

-- lent list k as it must be after the call
abbrev pub expected : List ℕ → ℕ → List ℕ
expected w k = list_at w (after_lists w (answer_at w + 4) k)

-- so many lists, so many lent lists, and nothing else
unfoldable pub has_shape : List ℕ → ℕ → ℕ → Bool
has_shape w lists lent =
    cond (eqb (get_or w 1 0) lists)
    (cond (eqb (get_or w (answer_at w + 3) 0) lent) (eqb (after_lists w (answer_at w + 4) lent) (length w)) false)
    false
