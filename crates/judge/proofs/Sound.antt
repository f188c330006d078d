-- What is accepted of a book is sound: the lists that it holds, by the theorem of Check and of the strict check. A book's target is no longer than
-- the book, so a book that is a slice meets the theorem's bound. Assumes nothing.
use Prim.Native.Nat.{ℕ, ◌≤◌}
use mathlib.Core.Path.{◌≡◌, sym, ap, ◌∙◌}
use mathlib.Core.Bool.{Bool, true, false, cond}
use mathlib.Core.List.{List}
use native.Mathlib.Omega.{arith}
use lib.Dec.{ltb}
use lib.ListN.{length, replicate, length-replicate}
use Rattle.answers.specs.Answer.{Answer}
use Rattle.answers.specs.Answer.{WorkShort, BookShape}
use Rattle.answers.specs.Answer.{is_accepted, and_then, lent}
use Rattle.answers.proofs.AndThen.{accepts-both}
use Rattle.lists.proofs.Choice.{no_way}
use Rattle.rows.specs.Row.{MAX}
use Rattle.lowering.specs.Lowering.{Lowering, source_rows, target_rows}
use Rattle.lowering.specs.Check.{refuse, first_refusal, count_answers, check_answer_by}
use Rattle.meaning.specs.Meaning.{truth}
use Rattle.soundness.specs.Sound.{AcceptsBy, SoundBy}
use Rattle.soundness.specs.Choices.{classes_left, SameChoicesBy}
use Rattle.soundness.proofs.Theorem.{sound, same-choices, choices-left}
use Rattle.book.specs.Book.{book_answer}
use Rattle.bodies.proofs.Words.{list-short}
use Rattle.loaded.specs.Held.{held, book_words}
use Rattle.judge.specs.Judge.{longest, verdict_by, judge_by}

-- the check accepts in lists of so many words
accepts-in : (strict : Bool) (L : Lowering) (w0 w1 c e : ℕ) → is_accepted (check_answer_by strict L w0 w1 c e) ≡ true
    → AcceptsBy strict L (replicate w0 0) (replicate w1 0) (replicate c 0) (replicate e 0)
accepts-in strict L w0 w1 c e a = rw (long w0, long w1, long c, long e) a
  where
    long : (n : ℕ) → length {A = ℕ} (replicate n 0) ≡ n
    long n = length-replicate {A = ℕ} n 0

-- lists as long as their graphs
abbrev of-source : List ℕ → List ℕ
of-source b = replicate (source_rows (held b)) 0

abbrev of-target : List ℕ → List ℕ
of-target b = replicate (target_rows (held b)) 0

module _ (strict : Bool) (b : List ℕ) where
  -- what verdict and judge accept, the check accepts on the lists that the book holds
  verdict-accepts : (r : Answer) → r ≡ verdict_by strict b → is_accepted r ≡ true
      → AcceptsBy strict (held b) (of-source b) (of-target b) (of-target b) (of-target b)
  verdict-accepts r e a = go (ltb longest (length b)) (ap is_accepted (sym e) ∙ a)
    where
      go : (t : Bool) → is_accepted (cond t (BookShape 13)
          (and_then (book_answer b) (check_answer_by strict (held b) (source_rows (held b)) (target_rows (held b)) (target_rows (held b))
          (target_rows (held b))))) ≡ true
          → AcceptsBy strict (held b) (of-source b) (of-target b) (of-target b) (of-target b)
      go true n = no_way (sym n)
      go false n = accepts-in strict (held b) _ _ _ _ (accepts-both (book_answer b) _ n).1

  judge-accepts : (r : Answer) (ws0 ws1 cls ent words : List ℕ) → r ≡ (judge_by strict b ws0 ws1 cls ent words).answer → is_accepted r ≡ true
      → AcceptsBy strict (held b) ws0 ws1 cls ent
  judge-accepts r ws0 ws1 cls ent words e a =
      let x = (accepts-both (book_answer b) _ (ap is_accepted (sym e) ∙ a)).1 in
      let y =
      (accepts-both (first_refusal (count_answers (held b).source (held b).target (length ws0) (length ws1) (length cls) (length ent))) _ x).1 in
      (accepts-both (refuse (ltb (length words) (length (book_words b))) (WorkShort 5)) _ y).1

module _ (strict : Bool) (b : List ℕ) (slice : length b ≤ MAX) where
  small : length (held b).target.rows ≤ MAX
  small = omega (arith, list-short b 8)

  -- so it is sound and leaves the same choices
  pub verdict-means : (r : Answer) → r ≡ verdict_by strict b
      → (is_accepted r ≡ true → SoundBy (truth strict) (held b))
      × (is_accepted r ≡ true → SameChoicesBy (held b) (truth strict) (classes_left (held b)))
  verdict-means r e = (
    λ a. sound strict (held b) (of-source b) (of-target b) (of-target b) (of-target b) small (verdict-accepts strict b r e a),
    λ a. same-choices strict (held b) (of-source b) (of-target b) (of-target b) (of-target b) small (verdict-accepts strict b r e a),
  )

  pub judge-sound : (r : Answer) (ws0 ws1 cls ent words : List ℕ) → r ≡ (judge_by strict b ws0 ws1 cls ent words).answer → is_accepted r ≡ true
      → SoundBy (truth strict) (held b)
  judge-sound r ws0 ws1 cls ent words e a = sound strict (held b) ws0 ws1 cls ent small (judge-accepts strict b r ws0 ws1 cls ent words e a)

  -- by the list of classes that judge leaves
  pub judge-choices : (r : Answer) (ws0 ws1 cls ent words : List ℕ) → r ≡ (judge_by strict b ws0 ws1 cls ent words).answer → is_accepted r ≡ true
      → SameChoicesBy (held b) (truth strict) (lent r cls (classes_left (held b)))
  judge-choices r ws0 ws1 cls ent words e a =
      choices-left strict (held b) ws0 ws1 cls ent small (judge-accepts strict b r ws0 ws1 cls ent words e a) r cls a
