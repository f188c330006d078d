-- Sort tables computed: what they list, and each cause of 28. Assumes nothing.
use Prim.Native.Nat.{ℕ}
use mathlib.Core.Path.{◌≡◌, refl}
use mathlib.Core.List.{List, [], ◌∷◌}
use Rattle.answers.specs.Answer.{Accepted, SortTable}
use Rattle.lists.specs.First.{first}
use Rattle.lists.specs.Tests.{all}
use Rattle.sorts.specs.Sorts.{Edition, first_edition, second_edition, sorts_of, sort_good, sort_answer}

-- an array's index width and cell width
abbrev pub pair : Edition → ℕ → List ℕ
pair E array = (sorts_of E).index array ∷ (sorts_of E).cell array ∷ []

-- "The new scale has 16-bit addresses and 16-bit cells", array 7; beside it array 9, of 3-bit addresses and 5-bit cells
abbrev pub two : List ℕ
two = 7 ∷ 16 ∷ 16 ∷ 9 ∷ 3 ∷ 5 ∷ []

-- each array has its own entry's widths, the index's before the cell's
case-listed : pair (second_edition two) 7 ∷ pair (second_edition two) 9 ∷ [] ≡ (16 ∷ 16 ∷ []) ∷ (3 ∷ 5 ∷ []) ∷ []
unfolding first
case-listed = refl

-- "an array not listed" has no width, before, between and after those that are, and in an empty table
case-unlisted : pair (second_edition two) 0 ∷ pair (second_edition two) 8 ∷ pair (second_edition two) 16 ∷ pair (second_edition []) 7 ∷ []
    ≡ (0 ∷ 0 ∷ []) ∷ (0 ∷ 0 ∷ []) ∷ (0 ∷ 0 ∷ []) ∷ (0 ∷ 0 ∷ []) ∷ []
unfolding first
case-unlisted = refl

-- "the first edition, 32 and 8 for every array"
case-first : pair first_edition 7 ∷ pair first_edition 9 ∷ [] ≡ (32 ∷ 8 ∷ []) ∷ (32 ∷ 8 ∷ []) ∷ []
case-first = refl

-- good tables: two arrays, none
case-good : sort_answer (second_edition two) ∷ sort_answer (second_edition []) ∷ sort_answer first_edition ∷ [] ≡ Accepted ∷ Accepted ∷ Accepted ∷ []
unfolding first sort_good all
case-good = refl

-- "cut": by two words, by one, the second entry
case-cut : sort_answer (second_edition (7 ∷ [])) ∷ sort_answer (second_edition (7 ∷ 16 ∷ [])) ∷ sort_answer
    (second_edition (7 ∷ 16 ∷ 16 ∷ 9 ∷ 3 ∷ [])) ∷ []
    ≡ SortTable 0 ∷ SortTable 0 ∷ SortTable 1 ∷ []
unfolding first sort_good all
case-cut = refl

-- "unsorted": below, and, as it is "strictly rising", equal
case-below : sort_answer (second_edition (9 ∷ 3 ∷ 5 ∷ 7 ∷ 16 ∷ 16 ∷ [])) ≡ SortTable 1
unfolding first sort_good all
case-below = refl

case-equal : sort_answer (second_edition (7 ∷ 16 ∷ 16 ∷ 7 ∷ 16 ∷ 16 ∷ [])) ≡ SortTable 1
unfolding first sort_good all
case-equal = refl

-- "zero-width": the index's, the cell's; a width above the ceiling is not looked at here
case-zero : sort_answer (second_edition (7 ∷ 0 ∷ 16 ∷ [])) ∷ sort_answer (second_edition (7 ∷ 16 ∷ 0 ∷ []))
    ∷ sort_answer (second_edition (7 ∷ 16 ∷ 4097 ∷ [])) ∷ []
    ≡ SortTable 0 ∷ SortTable 0 ∷ Accepted ∷ []
unfolding first sort_good all
case-zero = refl

-- the "first entry" of several that are bad
case-several : sort_answer (second_edition (7 ∷ 16 ∷ 16 ∷ 9 ∷ 0 ∷ 5 ∷ 8 ∷ 1 ∷ 1 ∷ 9 ∷ [])) ≡ SortTable 1
unfolding first sort_good all
case-several = refl
