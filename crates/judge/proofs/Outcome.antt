-- The outcome of a book's verdict, refusal by refusal. Assumes nothing.
use Prim.Native.Nat.{ℕ, ◌-◌, ◌≤◌}
use mathlib.Core.Path.{◌≡◌, refl, sym, ap, ap₂, ◌∙◌}
use mathlib.Core.Bool.{Bool, true, false, cond}
use mathlib.Core.List.{List, [], ◌∷◌, ◌++◌}
use borrow.Author.Tests.{ltb-false}
use lib.Dec.{eqb, ltb}
use lib.ListN.{length, replicate}
use Rattle.answers.specs.Answer.{Answer}
use Rattle.answers.specs.Answer.{WorkShort}
use Rattle.answers.specs.Answer.{is_accepted, keeps, and_then}
use Rattle.answers.specs.Result.{Result, result_of, left, leaves}
use Rattle.answers.proofs.AndThen.{accepts-both}
use Rattle.lists.proofs.Choice.{no_way}
use Rattle.lowering.specs.Check.{refuse, first_refusal, count_answers, check_answer_by, check_by}
use Rattle.checker.proofs.Keeps.{keeps-count}
use Rattle.checker.proofs.Outcome.{four, keeps-rest}
use Rattle.contents.specs.Contents.{sections, contents}
use Rattle.book.specs.Book.{due_at, first_bad, book_answer}
use Rattle.book.proofs.Shape.{shape-by}
use Rattle.loaded.specs.Held.{held, book_words}
use Rattle.judge.specs.Judge.{judge_answer_by, judge_by}

-- 20 is not among the refusals that write nothing
keeps-book : (b : List ℕ) → keeps (book_answer b) ≡ false
keeps-book b = go (ltb (length b) (contents b)) (ltb (first_bad b) (sections b)) (eqb (due_at b (sections b)) (length b))
  where
    go : (s f d : Bool) → keeps (shape-by b s f d) ≡ false
    go true f d = refl
    go false true d = refl
    go false false true = refl
    go false false false = refl

-- two answers, the first of which counts where it refuses
refuses-one : (a b rest : Answer) → is_accepted (and_then a b) ≡ false → and_then a (and_then b rest) ≡ and_then a b
refuses-one a b rest e = go (is_accepted a) refl e
  where
    go : (t : Bool) → is_accepted a ≡ t → is_accepted (cond t b a) ≡ false → cond t (and_then b rest) a ≡ cond t b a
    go true f g = rw g
    go false f g = refl

module _ (strict : Bool) (b ws0 ws1 cls ent words : List ℕ) where
  abbrev counts : Answer
  counts = first_refusal (count_answers (held b).source (held b).target (length ws0) (length ws1) (length cls) (length ent))

  abbrev short : Answer
  short = refuse (ltb (length words) (length (book_words b))) (WorkShort 5)

  abbrev pub room : Answer
  room = and_then counts short

  abbrev checked : Answer
  checked = check_answer_by strict (held b) (length ws0) (length ws1) (length cls) (length ent)

  abbrev whole : Answer
  whole = judge_answer_by strict b (length ws0) (length ws1) (length cls) (length ent) (length words)

  -- Check's lists and the book's words, with what acceptance writes
  abbrev five : List (List ℕ × List ℕ)
  five = four strict (held b) ws0 ws1 cls ent ++ ((words, book_words b) ∷ [])

  settle : (a : Answer) (lists : List (List ℕ)) → whole ≡ a → left a five ≡ lists → result_of a lists ≡ judge_by strict b ws0 ws1 cls ent words
  settle a lists e f = sym (ap (λ (z : Answer). leaves z five) e ∙ ap (result_of a) f)

  module _ (a : Answer) where
    pub shape-done : a ≡ book_answer b → is_accepted a ≡ false
        → result_of a (replicate (length ws0) 0 ∷ replicate (length ws1) 0 ∷ replicate (length cls) 0 ∷ replicate (length ent) 0
        ∷ replicate (length words) 0 ∷ [])
        ≡ judge_by strict b ws0 ws1 cls ent words
    shape-done e n =
        let r : is_accepted (book_answer b) ≡ false = rw e at n in
        let k : keeps a ≡ false = rw e (keeps-book b) in
        settle a _ (rw r (sym e)) (rw (n, k))

    module _ (g : is_accepted (book_answer b) ≡ true) where
      room-keeps : is_accepted room ≡ false → keeps room ≡ true
      room-keeps n = go (is_accepted counts) refl n
        where
          go : (t : Bool) → is_accepted counts ≡ t → is_accepted (cond t short counts) ≡ false → keeps (cond t short counts) ≡ true
          go true e m = short-keeps (ltb (length words) (length (book_words b))) m
            where
              short-keeps : (t : Bool) → is_accepted (refuse t (WorkShort 5)) ≡ false → keeps (refuse t (WorkShort 5)) ≡ true
              short-keeps true m = refl
              short-keeps false m = no_way m
          go false e m = keeps-count (held b).source (held b).target (length ws0) (length ws1) (length cls) (length ent) e

      pub room-done : a ≡ room → is_accepted a ≡ false → result_of a (ws0 ∷ ws1 ∷ cls ∷ ent ∷ words ∷ []) ≡ judge_by strict b ws0 ws1 cls ent words
      room-done e n =
          let r : is_accepted room ≡ false = rw e at n in
          let k : keeps a ≡ true = rw e (room-keeps r) in
          settle a _ (rw g (refuses-one counts short checked r) ∙ sym e) (rw (n, k))

      module _ (r : is_accepted room ≡ true) (is-checked : a ≡ checked) (lists : List (List ℕ))
          (o : lists ≡ (check_by strict (held b) ws0 ws1 cls ent).lists) where
        whole-checked : whole ≡ a
        whole-checked = let p = accepts-both counts short r in rw (g, p.0, p.1) (sym is-checked)

        left-checked : left a (four strict (held b) ws0 ws1 cls ent) ≡ lists
        left-checked = ap (λ (z : Answer). left z (four strict (held b) ws0 ws1 cls ent)) is-checked ∙ sym o

        -- the words stay where Check accepts, and are zeroed where it refuses
        pub check_done : (x : List ℕ)
            → x ≡ cond (is_accepted a) (book_words b ++ replicate (length words - length (book_words b)) 0) (replicate (length words) 0)
            → result_of a (lists ++ (x ∷ [])) ≡ judge_by strict b ws0 ws1 cls ent words
        check_done x e =
            let k : keeps a ≡ false = rw is-checked (keeps-rest strict (held b) ws0 ws1 cls ent (accepts-both counts short r).0) in
            settle a _ whole-checked (ap₂ (λ (ls : List (List ℕ)) (l : List ℕ). ls ++ (l ∷ [])) left-checked (rw k (sym e)))

  -- room for the words
  pub words-fit : is_accepted room ≡ true → length (book_words b) ≤ length words
  words-fit r = go (ltb (length words) (length (book_words b))) refl (accepts-both counts short r).1
    where
      go : (t : Bool) → ltb (length words) (length (book_words b)) ≡ t → is_accepted (refuse t (WorkShort 5)) ≡ true
          → length (book_words b) ≤ length words
      go true e n = no_way (sym n)
      go false e n = ltb-false _ _ e

-- a result by its lists
pub by-lists : (a : Answer) (x0 x1 x2 x3 x4 y0 y1 y2 y3 y4 : List ℕ) (z : Result) → x0 ≡ y0 → x1 ≡ y1 → x2 ≡ y2 → x3 ≡ y3 → x4 ≡ y4
    → result_of a (y0 ∷ y1 ∷ y2 ∷ y3 ∷ y4 ∷ []) ≡ z → result_of a (x0 ∷ x1 ∷ x2 ∷ x3 ∷ x4 ∷ []) ≡ z
by-lists a x0 x1 x2 x3 x4 y0 y1 y2 y3 y4 z e f g h l k = rw (e, f, g, h, l) k

-- the words by the test as the code made it, in a list as long as it was lent
pub words_left : (b x : List ℕ) (t u : Bool) (m n : ℕ) → x ≡ cond t (book_words b ++ replicate (m - length (book_words b)) 0) (replicate m 0) → t ≡ u
    → m ≡ n
    → x ≡ cond u (book_words b ++ replicate (n - length (book_words b)) 0) (replicate n 0)
words_left b x t u m n e f g = e ∙ rw (f, g)
