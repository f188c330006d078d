-- Work lists that are long enough: the check's answer does not depend on how long they are. Assumes nothing.
use Prim.Native.Nat.{ℕ, ◌+◌, ◌*◌, ◌/◌, ◌<◌, ◌≤◌}
use mathlib.Core.Path.{◌≡◌, refl, sym, ◌∙◌}
use mathlib.Core.Bool.{Bool, true, false, cond}
use mathlib.Core.List.{List, ◌++◌}
use native.Mathlib.Omega.{arith}
use borrow.Author.Tests.{lt-ltb, le-ltb}
use lib.Dec.{ltb}
use lib.ListN.{length}
use Rattle.answers.specs.Answer.{Answer}
use Rattle.answers.specs.Answer.{WorkShort, BookShape}
use Rattle.answers.specs.Answer.{is_accepted, and_then}
use Rattle.lowering.specs.Lowering.{Lowering, source_rows, target_rows}
use Rattle.lowering.specs.Check.{refuse, first_refusal, count_answers, form_answers, match_answers, check_answer_by}
use Rattle.lowering.proofs.Refusals.{refusal-append}
use Rattle.contents.specs.Contents.{sections, contents}
use Rattle.contents.proofs.Editions.{sections-low}
use Rattle.book.specs.Book.{due_at, book_answer}
use Rattle.bodies.specs.Words.{list_of, loaded}
use Rattle.book.specs.Good.{Good}
use Rattle.book.proofs.Shape.{good_book}
use Rattle.bodies.proofs.Words.{loaded-bound, loaded-below}
use Rattle.loaded.specs.Held.{held, book_words}
use Rattle.judge.specs.Judge.{judge_answer_by, longest, verdict_by}

module _ (strict : Bool) (L : Lowering) (w0 w1 c e : ℕ) where
  abbrev counts : Answer
  counts = first_refusal (count_answers L.source L.target w0 w1 c e)

  -- Check's answer begins with its counts'
  again : and_then counts (check_answer_by strict L w0 w1 c e) ≡ check_answer_by strict L w0 w1 c e
  again = go (is_accepted counts) refl
    where
      rest : Answer
      rest = first_refusal (form_answers strict L.edition L.source L.target L.eroots L.troots ++ match_answers L)

      split : check_answer_by strict L w0 w1 c e ≡ and_then counts rest
      split =
          refusal-append (count_answers L.source L.target w0 w1 c e)
          (form_answers strict L.edition L.source L.target L.eroots L.troots ++ match_answers L)

      go : (t : Bool) → is_accepted counts ≡ t → cond t (check_answer_by strict L w0 w1 c e) counts ≡ check_answer_by strict L w0 w1 c e
      go true f = refl
      go false f = sym (split ∙ rw f)

  enough : source_rows L ≤ w0 → target_rows L ≤ w1 → target_rows L ≤ c → target_rows L ≤ e
      → check_answer_by strict L w0 w1 c e ≡ check_answer_by strict L (source_rows L) (target_rows L) (target_rows L) (target_rows L)
  enough h0 h1 h2 h3 =
      let s : ltb (source_rows L) (source_rows L) ≡ false = le-ltb (source_rows L) (source_rows L) (omega arith) in
      let t : ltb (target_rows L) (target_rows L) ≡ false = le-ltb (target_rows L) (target_rows L) (omega arith) in
      rw (le-ltb _ _ h0, le-ltb _ _ h1, le-ltb _ _ h2, le-ltb _ _ h3, s, t)

-- a book of either edition of at most 65,536 bytes has at most 8,170 words
pub few_words : (b : List ℕ) → length b ≤ longest → Good b → length (book_words b) ≤ 8170
few_words b h g =
    let x : contents b + 8 * length (loaded b (sections b)) ≤ due_at b (sections b) = loaded-bound b g (sections b) (omega arith) in
    let y : due_at b (sections b) ≡ length b = (good_book b g).ends in
    omega (arith, sections-low b)

pub few-in : (b : List ℕ) (i : ℕ) → length (loaded b i) + length (list_of b i) ≤ length (book_words b) → length (book_words b) ≤ 8170
    → length (list_of b i) ≤ 8170
few-in b i h k = omega arith

module _ (strict : Bool) (b : List ℕ) (w0 w1 c e room : ℕ) (h0 : 2048 ≤ w0) (h1 : 2048 ≤ w1) (h2 : 2048 ≤ c) (h3 : 2048 ≤ e) (h4 : 8192 ≤ room) where
  module _ (h : length b ≤ longest) where
    long-enough : Good b → and_then (first_refusal (count_answers (held b).source (held b).target w0 w1 c e))
        (and_then (refuse (ltb room (length (book_words b))) (WorkShort 5)) (check_answer_by strict (held b) w0 w1 c e))
        ≡ check_answer_by strict (held b) (source_rows (held b)) (target_rows (held b)) (target_rows (held b)) (target_rows (held b))
    long-enough g =
        let n : 11 ≤ sections b = sections-low b in
        let k : length (book_words b) ≤ 8170 = few_words b h g in
        let s : length (list_of b 0) ≤ 8170 = few-in b 0 (loaded-below b (sections b) 0 (omega (arith, n))) k in
        let t : length (list_of b 8) ≤ 8170 = few-in b 8 (loaded-below b (sections b) 8 (omega (arith, n))) k in
        let l : length (book_words b) ≤ room = omega arith in
        let r0 : length (list_of b 0) / 5 ≤ w0 = omega arith in
        let r1 : length (list_of b 8) / 4 ≤ w1 = omega arith in
        let r2 : length (list_of b 8) / 4 ≤ c = omega arith in
        let r3 : length (list_of b 8) / 4 ≤ e = omega arith in
        rw (le-ltb _ _ l) (again strict (held b) w0 w1 c e) ∙ enough strict (held b) w0 w1 c e r0 r1 r2 r3

    pub verdict-is : judge_answer_by strict b w0 w1 c e room ≡ verdict_by strict b
    verdict-is = rw (le-ltb longest (length b) h) (go (is_accepted (book_answer b)) refl)
      where
        go : (t : Bool) → is_accepted (book_answer b) ≡ t → judge_answer_by strict b w0 w1 c e room
            ≡ and_then (book_answer b) (check_answer_by strict (held b) (source_rows (held b)) (target_rows (held b)) (target_rows (held b))
            (target_rows (held b)))
        go true g = rw g (long-enough g)
        go false g = rw g

pub too_long : (strict : Bool) (b : List ℕ) → longest < length b → BookShape 13 ≡ verdict_by strict b
too_long strict b h = rw (lt-ltb _ _ h)
