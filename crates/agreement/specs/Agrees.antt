-- When the library's definitions answer a case as it expects: the number, place and detail, and every lent list. Assumes nothing.
use Rattle.std.specs.Prelude.{ℕ, ◌≡◌, Bool, true, false, List, length, get_or}
use Rattle.answers.specs.Answer.{words_of}
use Rattle.book.specs.Book.{section_answer, section}
use Rattle.judge.specs.Judge.{verdict_by}
use Rattle.cases.specs.Case.{given, answer, expected, has_shape}
use Rattle.single.specs.Single.{WidthsAgree, RootsAgree, ValuesAgree}
use Rattle.paired.specs.Paired.{CheckAgrees}

-- the verdict on a book, strict or not; the book is list 0
abbrev pub BookAgrees : Bool → List ℕ → Type 0
BookAgrees strict w = (has_shape w 1 0 ≡ true) × (words_of (verdict_by strict (given w 0)) ≡ answer w)

-- section n of a book is as expected
abbrev pub SameSection : List ℕ → List ℕ → ℕ → Type 0
SameSection w book n = (words_of (section_answer book n) ≡ answer w) × (section book n ≡ expected w 0)

-- the book is list 0, the section's number the one word of list 1
abbrev pub SectionAgrees : List ℕ → Type 0
SectionAgrees w = (has_shape w 2 1 ≡ true) × (length (given w 1) ≡ 1) × SameSection w (given w 0) (get_or (given w 1) 0 0)

-- by the operation, a case's first word
pub data Agrees (w : List ℕ) : Type 0 where
  source-widths : get_or w 0 0 ≡ 1 → WidthsAgree true false 4 w → Agrees w
  target-widths : get_or w 0 0 ≡ 2 → WidthsAgree false false 3 w → Agrees w
  roots : get_or w 0 0 ≡ 3 → RootsAgree w → Agrees w
  value-list : get_or w 0 0 ≡ 4 → ValuesAgree w → Agrees w
  lowered : get_or w 0 0 ≡ 5 → CheckAgrees false false w → Agrees w
  book : get_or w 0 0 ≡ 6 → BookAgrees false w → Agrees w
  book-section : get_or w 0 0 ≡ 7 → SectionAgrees w → Agrees w
  strictly-lowered : get_or w 0 0 ≡ 8 → CheckAgrees true false w → Agrees w
  strict-book : get_or w 0 0 ≡ 9 → BookAgrees true w → Agrees w
  sorted-widths : get_or w 0 0 ≡ 10 → WidthsAgree true true 5 w → Agrees w
  sorted-lowered : get_or w 0 0 ≡ 11 → CheckAgrees false true w → Agrees w
  sorted-strictly : get_or w 0 0 ≡ 12 → CheckAgrees true true w → Agrees w
