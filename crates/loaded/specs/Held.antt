-- The lists that a book holds, as Check takes them (01, 'Section of a book'). Assumes nothing.
use Rattle.std.specs.Prelude.{ℕ, List}
use Rattle.sorts.specs.Sorts.{Edition, edition}
use Rattle.contents.specs.Contents.{is_second, sections}
use Rattle.book.specs.Book.{body}
use Rattle.bodies.specs.Words.{list_of, loaded}
use Rattle.lowering.specs.Lowering.{Lowering, lowering_in}

-- what gives arrays their sorts: "the twelfth body" in a second edition, nothing in a first (02, 2.9)
abbrev pub edition_of : List ℕ → Edition
edition_of b = edition (is_second b) (list_of b 11)

-- "the bodies in the order of `check_sliver_lowering`'s arguments"
abbrev pub held : List ℕ → Lowering
held b =
    let words = list_of b in
    lowering_in (edition_of b) (words 0) (body b 1) (words 2) (words 3) (words 4) (words 5) (words 6) (words 7) (words 8) (body b 9) (words 10)

-- all words that a book holds
abbrev pub book_words : List ℕ → List ℕ
book_words b = loaded b (sections b)
