-- A book of good shape.
-- Inner: contracts within the code cite it; no answer's definition does. Assumes nothing.
use Rattle.std.specs.Prelude.{◌≡◌, true, List, ℕ}
use Rattle.answers.specs.Answer.{is_accepted}
use Rattle.book.specs.Book.{book_answer}

abbrev pub Good : List ℕ → Type 0
Good b = is_accepted (book_answer b) ≡ true
