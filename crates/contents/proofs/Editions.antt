-- How many sections a book has, by its edition. Assumes nothing.
use Rattle.std.proofs.Common.{◌≡◌, ℕ, ◌≤◌, Bool, true, false, cond, List, refl, arith}
use Rattle.contents.specs.Contents.{is_second, sections}

module _ (b : List ℕ) where
  pub sections-first : is_second b ≡ false → sections b ≡ 11
  sections-first e = rw e

  pub sections-second : is_second b ≡ true → sections b ≡ 12
  sections-second e = rw e

  -- and the edition by their number
  pub second-of : sections b ≡ 12 → is_second b ≡ true
  second-of = go (is_second b)
    where
      go : (t : Bool) → ◌≡◌ {A = ℕ} (cond t 12 11) 12 → t ≡ true
      go true e = refl
      go false e = absurd (omega arith)

  pub first_of : (sections b ≡ 12 → ⊥) → is_second b ≡ false
  first_of = go (is_second b)
    where
      go : (t : Bool) → (◌≡◌ {A = ℕ} (cond t 12 11) 12 → ⊥) → t ≡ false
      go true n = absurd (n refl)
      go false n = refl

  pub sections-low : 11 ≤ sections b
  sections-low = go (is_second b)
    where
      go : (t : Bool) → 11 ≤ cond t 12 11
      go true = omega arith
      go false = omega arith

  pub sections-high : sections b ≤ 12
  sections-high = go (is_second b)
    where
      go : (t : Bool) → cond t 12 11 ≤ 12
      go true = omega arith
      go false = omega arith
