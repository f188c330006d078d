-- Laws of choices by a test, of two numbers in order, and strong induction. Assumes nothing.
use Prim.Native.Nat.{ℕ, zero, suc, ◌<◌, ◌≤◌}
use mathlib.Core.Path.{◌≡◌, refl, sym, ◌∙◌}
use mathlib.Core.Bool.{Bool, true, false, cond, not}
use mathlib.Core.Logic.{◌⊎◌, inl, inr}
use native.Mathlib.Decide.{dec_lt}
use native.Mathlib.Nat.{not-suc-le-zero}
use native.Mathlib.Omega.{arith}
use borrow.Author.Tests.{not-true, not-false}

pub no_way : {P : Type 0} → true ≡ false → P
no_way e = let z : ◌≡◌ {A = ℕ} 0 1 = cc in absurd (omega arith)

-- a choice whose other branch is 0 and that is above 0 was taken
pub taken : (b : Bool) (v w : ℕ) → cond b v 0 ≡ w → 0 < w → (b ≡ true) × (v ≡ w)
taken true v w e h = (refl, e)
taken false v w e h = absurd (omega arith)

-- two tests joined by "and"
pub both : (a b : Bool) → cond a b false ≡ true → (a ≡ true) × (b ≡ true)
both true b e = (refl, e)
both false b e = let z : ◌≡◌ {A = ℕ} 0 1 = cc in absurd (omega arith)

-- one number is below another or not
pub lt-or-ge : (a b : ℕ) → (a < b) ⊎ (b ≤ a)
lt-or-ge a b = go (dec_lt a b)
  where
    go : Dec (a < b) → (a < b) ⊎ (b ≤ a)
    go (yes l) = inl l
    go (no l) = inr (omega arith)

-- the last of several tests decides alone
pub last-test : (b : Bool) → b ≡ cond b true false
last-test true = refl
last-test false = refl

-- a choice of one thing
pub cond_same : {A : Type 0} (b : Bool) (x : A) → cond b x x ≡ x
cond_same true x = refl
cond_same false x = refl

-- a test's value, from the test's outcome in code
pub tested-no : (x y : Bool) → x ≡ y → not x ≡ true → y ≡ false
tested-no x y e h = sym e ∙ not-true x h

pub tested-yes : (x y : Bool) → x ≡ y → not x ≡ false → y ≡ true
tested-yes x y e h = sym e ∙ not-false x h

-- P holds at i where it holds at all below
pub strong : (P : ℕ → Type 0) → ((i : ℕ) → ((j : ℕ) → j < i → P j) → P i) → (i : ℕ) → P i
strong P step i = step i (below i)
  where
    below : (n j : ℕ) → j < n → P j
    below zero j h = absurd (not-suc-le-zero h)
    below (suc n) j h = step j (λ k l. below n k (omega arith))
