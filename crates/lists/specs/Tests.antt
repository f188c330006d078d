-- Tests of several things at once. Assumes nothing.
use Rattle.std.specs.Prelude.{ℕ, Bool, true, false, cond, not, List, [], ◌∷◌, eqb}
use Rattle.lists.specs.First.{none}

-- every test of a list passes
unfoldable pub all : List Bool → Bool
all [] = true
all (b ∷ more) = cond b (all more) false

-- two sequences have the same first n numbers
unfoldable pub agree : (ℕ → ℕ) → (ℕ → ℕ) → ℕ → Bool
agree f g n = none (λ k. not (eqb (f k) (g k))) n
