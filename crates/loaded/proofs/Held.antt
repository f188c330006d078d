-- 15 and 18 on a book's lists test by test, and either check on eleven lists that are a book's. Assumes nothing.
use Prim.Native.Nat.{ℕ, ◌<◌, ◌≤◌}
use mathlib.Core.Path.{◌≡◌, sym}
use mathlib.Core.Bool.{true, false}
use mathlib.Core.List.{List}
use borrow.Author.Tests.{lt-ltb, le-ltb}
use lib.Dec.{ltb}
use lib.ListN.{length}
use Rattle.sorts.specs.Sorts.{Edition}
use Rattle.answers.specs.Answer.{Answer}
use Rattle.answers.specs.Answer.{Accepted, WorkShort}
use Rattle.answers.specs.Answer.{is_accepted, and_then}
use Rattle.lowering.specs.Lowering.{lowering_in}
use Rattle.lowering.specs.Check.{refuse, first_refusal, count_answers}
use Rattle.book.specs.Book.{body}
use Rattle.bodies.specs.Words.{list_of}
use Rattle.loaded.specs.Held.{edition_of, held, book_words}

-- the answer to the counts and the room for the words
module _ (b : List ℕ) (w0 w1 c e words : ℕ) (a : Answer) (q : a ≡ first_refusal (count_answers (held b).source (held b).target w0 w1 c e)) where
  abbrev answered : Answer
  answered =
      and_then (first_refusal (count_answers (held b).source (held b).target w0 w1 c e)) (refuse (ltb words (length (book_words b))) (WorkShort 5))

  pub counts-refused : is_accepted a ≡ false → a ≡ answered
  counts-refused n = let m : is_accepted (first_refusal (count_answers (held b).source (held b).target w0 w1 c e)) ≡ false = rw q at n in rw m q

  module _ (n : is_accepted a ≡ true) (k : ℕ) (l : k ≡ length (book_words b)) where
    counted : is_accepted (first_refusal (count_answers (held b).source (held b).target w0 w1 c e)) ≡ true
    counted = rw q at n

    pub words-short : words < k → WorkShort 5 ≡ answered
    words-short h = rw (counted, sym l, lt-ltb _ _ h)

    pub room-good : k ≤ words → Accepted ≡ answered
    room-good h = rw (counted, sym l, le-ltb _ _ h)

-- either check on the edition and eleven lists that are a book's
pub held_by : (b : List ℕ) (E : Edition) (x0 x1 x2 x3 x4 x5 x6 x7 x8 x9 x10 : List ℕ) → E ≡ edition_of b
    → x0 ≡ list_of b 0 → x1 ≡ body b 1 → x2 ≡ list_of b 2 → x3 ≡ list_of b 3
    → x4 ≡ list_of b 4 → x5 ≡ list_of b 5 → x6 ≡ list_of b 6 → x7 ≡ list_of b 7 → x8 ≡ list_of b 8 → x9 ≡ body b 9 → x10 ≡ list_of b 10
    → lowering_in E x0 x1 x2 x3 x4 x5 x6 x7 x8 x9 x10 ≡ held b
held_by b E x0 x1 x2 x3 x4 x5 x6 x7 x8 x9 x10 e e0 e1 e2 e3 e4 e5 e6 e7 e8 e9 e10 = rw (e, e0, e1, e2, e3, e4, e5, e6, e7, e8, e9, e10)
