-- The sorts of arrays, an index width and a cell width each, and the table that lists them (01, 'Well-formedness'; 02, 2.9). Assumes nothing.
use Rattle.std.specs.Prelude.{ℕ, zero, suc, ◌+◌, ◌*◌, ◌/◌, Bool, true, false, not, cond, List, [], ◌∷◌, eqb, ltb, leb, length, get_or}
use Rattle.std.specs.Prelude.{Option, Some, None}
use Rattle.std.specs.Borrow.{Bor}
use Rattle.answers.specs.Answer.{Answer}
use Rattle.answers.specs.Answer.{Accepted, SortTable}
use Rattle.lists.specs.First.{first}
use Rattle.lists.specs.Tests.{all}

-- the two widths of each array. 0, which is no width, is what an array without a sort has: no row has it, so its Selects are ill-formed
pub record Sorts : Type 0 where
  pub index : ℕ → ℕ
  pub cell : ℕ → ℕ

-- "the twelfth body lists array, index width, cell width in threes": entry k; a cut entry counts as one
abbrev pub sort_count : List ℕ → ℕ
sort_count table = (length table + 2) / 3

abbrev pub array_at : List ℕ → ℕ → ℕ
array_at table k = get_or table (k * 3) 0

abbrev pub index_at : List ℕ → ℕ → ℕ
index_at table k = get_or table (k * 3 + 1) 0

abbrev pub cell_at : List ℕ → ℕ → ℕ
cell_at table k = get_or table (k * 3 + 2) 0

-- the entry that lists an array, and the number of entries, where no words are, for "an array not listed"
abbrev pub entry_of : List ℕ → ℕ → ℕ
entry_of table array = first (λ k. eqb (array_at table k) array) (sort_count table)

-- what the sorts are taken from: nothing in a first edition, a table in a second; "an empty table" lists no array
pub data Edition : Type 0 where
  first_edition : Edition
  second_edition : List ℕ → Edition

abbrev pub edition : Bool → List ℕ → Edition
edition false table = first_edition
edition true table = second_edition table

-- the same of a table that is given or not
abbrev pub edition_given : Option (Bor (List ℕ)) → Edition
edition_given None = first_edition
edition_given (Some table) = second_edition table.now

-- "Select needs an index of width 32 and, per pair in the side list, an index row of width 32 and a value row of width 8; its width is 8". A target
-- has no Select, so that its rows have the same widths under any sorts; these are named for it
abbrev pub plain : Sorts
plain = record { index = λ array. 32; cell = λ array. 8 }

-- "the first edition, 32 and 8 for every array"; in the second "a Select takes its widths from there"
abbrev pub sorts_of : Edition → Sorts
sorts_of first_edition = plain
sorts_of (second_edition table) = record {
  index = λ array. index_at table (entry_of table array);
  cell = λ array. cell_at table
      (entry_of table array);
}

-- "strictly rising by array"
abbrev pub rises : List ℕ → ℕ → Bool
rises table zero = true
rises table (suc k) = ltb (array_at table k) (array_at table (suc k))

-- "28 SortTable (first entry) for a cut, unsorted or zero-width entry"
unfoldable pub sort_good : List ℕ → ℕ → Bool
sort_good table k = all (leb (k * 3 + 3) (length table) ∷ rises table k ∷ ltb 0 (index_at table k) ∷ ltb 0 (cell_at table k) ∷ [])

abbrev pub bad_sort : List ℕ → ℕ
bad_sort table = first (λ k. not (sort_good table k)) (sort_count table)

abbrev pub sort_answer : Edition → Answer
sort_answer first_edition = Accepted
sort_answer (second_edition table) = cond (ltb (bad_sort table) (sort_count table)) (SortTable (bad_sort table)) Accepted
