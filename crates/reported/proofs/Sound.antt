-- Number 0 is acceptance, and what is accepted is sound and leaves the same choices: the contracts of the code of the checks and of
-- judge joined with the theorems. Assumes nothing.
use Prim.Native.Nat.{ℕ, ◌≤◌}
use mathlib.Core.Path.{◌≡◌, sym, ap, ◌∙◌}
use mathlib.Core.Bool.{Bool, true}
use mathlib.Core.List.{List, [], ◌∷◌}
use lib.ListN.{length, get_or}
use Rattle.answers.specs.Answer.{Answer}
use Rattle.answers.specs.declared.Words.{Words}
use Rattle.answers.specs.Answer.{words_of, is_accepted}
use Rattle.answers.proofs.Numbers.{number-accepted}
use Rattle.answers.specs.Result.{Result, result_of}
use Rattle.rows.specs.Row.{MAX}
use Rattle.lowering.specs.Lowering.{Lowering}
use Rattle.lowering.specs.Check.{check_by}
use Rattle.meaning.specs.Meaning.{truth}
use Rattle.soundness.specs.Sound.{AcceptsBy, SoundBy}
use Rattle.soundness.specs.Choices.{SameChoicesBy}
use Rattle.soundness.proofs.Theorem.{sound, choices-left}
use Rattle.loaded.specs.Held.{held}
use Rattle.judge.specs.Judge.{judge_by}
use Rattle.judge.proofs.Sound.{judge-sound, judge-choices}

-- "acceptance is number 0"
accepted : (w : Words) (r : Answer) → w ≡ words_of r → w.number ≡ 0 → is_accepted r ≡ true
accepted w r e z = number-accepted r (ap (λ (v : Words). v.number) (sym e) ∙ z)

module _ (strict : Bool) (w : Words) (r : Answer) (e : w ≡ words_of r) (ws0 ws1 cls ent l0 l1 left : List ℕ) (more : List (List ℕ)) where
  abbrev lists : List (List ℕ)
  lists = l0 ∷ l1 ∷ left ∷ more

  -- the third list that an operation leaves
  third : (o : Result) → result_of r lists ≡ o → left ≡ get_or o.lists 2 []
  third o q = ap (λ (z : Result). get_or z.lists 2 []) q

  pub check-means : (L : Lowering) → length L.target.rows ≤ MAX → result_of r lists ≡ check_by strict L ws0 ws1 cls ent
      → (w.number ≡ 0 → SoundBy (truth strict) L) × (w.number ≡ 0 → SameChoicesBy L (truth strict) left)
  check-means L slice o = (
    λ z. sound strict L ws0 ws1 cls ent slice (yes z),
    λ z. rw (third _ o) (choices-left strict L ws0 ws1 cls ent slice (yes z) (check_by strict L ws0 ws1 cls ent).answer cls (yes z)),
  )
    where
      yes : w.number ≡ 0 → AcceptsBy strict L ws0 ws1 cls ent
      yes z = ap (λ (q : Result). is_accepted q.answer) (sym o) ∙ accepted w r e z

  pub book-means : (b words : List ℕ) → length b ≤ MAX → result_of r lists ≡ judge_by strict b ws0 ws1 cls ent words
      → (w.number ≡ 0 → SoundBy (truth strict) (held b)) × (w.number ≡ 0 → SameChoicesBy (held b) (truth strict) left)
  book-means b words slice o = (
    λ z. judge-sound strict b slice r ws0 ws1 cls ent words is (accepted w r e z),
    λ z. rw (third _ o) (rw is at (judge-choices strict b slice r ws0 ws1 cls ent words is (accepted w r e z))),
  )
    where
      is : r ≡ (judge_by strict b ws0 ws1 cls ent words).answer
      is = ap (λ (q : Result). q.answer) o
