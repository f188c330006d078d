-- Laws of tests in order. Assumes nothing.
use mathlib.Core.Path.{◌≡◌, refl}
use mathlib.Core.Bool.{Bool, true, false, not}
use mathlib.Core.List.{List, [], ◌∷◌}
use Rattle.lists.specs.Tests.{all}
use Rattle.lists.proofs.Choice.{last-test}

-- the first test fails, or passes and leaves the others; two or three in one
module _ (more : List Bool) where
  pub fails : {b : Bool} → b ≡ false → false ≡ all (b ∷ more)
  unfolding all
  fails e = rw e

  pub passes : {b : Bool} → b ≡ true → all more ≡ all (b ∷ more)
  unfolding all
  passes e = rw e

  pub two : (a b : Bool) → all (all (a ∷ b ∷ []) ∷ more) ≡ all (a ∷ b ∷ more)
  unfolding all
  two true true = refl
  two true false = refl
  two false b = refl

  pub three : (a b c : Bool) → all (all (a ∷ b ∷ c ∷ []) ∷ more) ≡ all (a ∷ b ∷ c ∷ more)
  unfolding all
  three true true true = refl
  three true true false = refl
  three true false c = refl
  three false b c = refl

-- one test alone
pub alone : (b : Bool) → b ≡ all (b ∷ [])
unfolding all
alone b = last-test b

pub not-not : (b : Bool) → not (not b) ≡ b
not-not true = refl
not-not false = refl
