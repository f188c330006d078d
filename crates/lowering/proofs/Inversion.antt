-- What a first refusal that is none says of the answers, a search that found nothing of its tests. Assumes nothing.
use Prim.Native.Nat.{ℕ, ◌<◌}
use mathlib.Core.Path.{◌≡◌, refl, sym, ◌∙◌}
use mathlib.Core.Bool.{Bool, true, false, cond, not}
use mathlib.Core.List.{List, [], ◌∷◌, ◌++◌}
use native.Mathlib.Omega.{arith}
use borrow.Author.Tests.{ltb-true, ltb-false, not-true, not-false}
use lib.Dec.{ltb}
use Rattle.answers.specs.Answer.{Answer}
use Rattle.answers.specs.Answer.{is_accepted}
use Rattle.lists.specs.First.{first}
use Rattle.lists.proofs.Choice.{no_way}
use Rattle.lists.proofs.First.{first-hit, first-before}
use Rattle.lowering.specs.Check.{refuse, first_refusal}

-- each answer of a list accepts; where the first refusal is none, each does
abbrev pub Each : List Answer → Type 0
Each [] = Unit {0}
Each (a ∷ more) = (is_accepted a ≡ true) × Each more

pub each : (l : List Answer) → is_accepted (first_refusal l) ≡ true → Each l
unfolding first_refusal
each [] e = tt
each (a ∷ more) e = go _ refl e (each more)
  where
    go : (b : Bool) → is_accepted a ≡ b → is_accepted (cond b (first_refusal more) a) ≡ true → (is_accepted (first_refusal more) ≡ true → Each more)
        → (is_accepted a ≡ true) × Each more
    go true q f r = (q, r f)
    go false q f r = no_way (sym f ∙ q)

-- and where each accepts, the first refusal is none
pub none-refused : (l : List Answer) → Each l → is_accepted (first_refusal l) ≡ true
unfolding first_refusal
none-refused [] e = refl
none-refused (a ∷ more) (x, e) = rw x (none-refused more e)

-- two lists, one after the other
pub each_append : (xs ys : List Answer) → Each (xs ++ ys) → Each xs × Each ys
each_append [] ys e = (tt, e)
each_append (a ∷ xs) ys (x, e) = let (p, q) = each_append xs ys e in ((x, p), q)

-- a test with a refusal failed
pub not-refused : (b : Bool) (a : Answer) → is_accepted a ≡ false → is_accepted (refuse b a) ≡ true → b ≡ false
not-refused true a n e = no_way (sym e ∙ n)
not-refused false a n e = refl

-- a search that found nothing: all fail; a search for what fails: all pass
pub all-fail : (p : ℕ → Bool) (n : ℕ) → ltb (first p n) n ≡ false → (k : ℕ) → k < n → p k ≡ false
all-fail p n e k h = let l = ltb-false (first p n) n e in first-before p n k (omega arith)

pub all_pass : (p : ℕ → Bool) (n : ℕ) → ltb (first (λ k. not (p k)) n) n ≡ false → (k : ℕ) → k < n → p k ≡ true
all_pass p n e k h = not-false (p k) (all-fail (λ j. not (p j)) n e k h)

-- the first answer that is no acceptance is a refusal
pub first-refused : (f : ℕ → Answer) (n : ℕ) (b : Bool) → ltb (first (λ k. not (is_accepted (f k))) n) n ≡ b
    → is_accepted (refuse b (f (first (λ k. not (is_accepted (f k))) n))) ≡ true → b ≡ false
first-refused f n true e a =
    not-refused true (f (first (λ k. not (is_accepted (f k))) n)) (not-true _ (first-hit (λ k. not (is_accepted (f k))) n (ltb-true _ _ e))) a
first-refused f n false e a = refl
