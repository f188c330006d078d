-- The first refusal of two lists of tests, one after the other. Assumes nothing.
use mathlib.Core.Path.{◌≡◌, refl}
use mathlib.Core.Bool.{Bool, true, false, cond}
use mathlib.Core.List.{List, [], ◌∷◌, ◌++◌}
use Rattle.answers.specs.Answer.{Answer}
use Rattle.answers.specs.Answer.{is_accepted, and_then}
use Rattle.lowering.specs.Check.{first_refusal}

-- two lists: the second counts where the first accepts
pub refusal-append : (xs ys : List Answer) → first_refusal (xs ++ ys) ≡ and_then (first_refusal xs) (first_refusal ys)
unfolding first_refusal
refusal-append [] ys = refl
refusal-append (a ∷ xs) ys = go _ refl (refusal-append xs ys)
  where
    go : (b : Bool) → is_accepted a ≡ b → first_refusal (xs ++ ys) ≡ and_then (first_refusal xs) (first_refusal ys)
        → cond b (first_refusal (xs ++ ys)) a ≡ and_then (cond b (first_refusal xs) a) (first_refusal ys)
    go true e r = r
    go false e r = rw e
