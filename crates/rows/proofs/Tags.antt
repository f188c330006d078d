-- Tags by their groups. Assumes nothing.
use Prim.Native.Nat.{ℕ}
use mathlib.Core.Path.{◌≡◌, refl}
use mathlib.Core.Bool.{Bool, true, false, cond}
use borrow.Author.Tests.{eqb-true}
use lib.Dec.{eqb}
use Rattle.rows.specs.Tags.{t_zero_ext, t_sign_ext, t_not, t_bv_not, t_neg, is_un, is_extend}

-- one of two, where the test of either passes
pub one_of : (P : ℕ → Type 0) (t a b : ℕ) → P a → P b → cond (eqb t a) true (eqb t b) ≡ true → P t
one_of P t a b x y e = go (eqb t a) refl e
  where
    go : (c : Bool) → eqb t a ≡ c → cond c true (eqb t b) ≡ true → P t
    go true q f = rw (eqb-true t a q) x
    go false q f = rw (eqb-true t b f) y

-- what holds of each tag of one operand holds of them all, and so for the extensions
pub un-tags : (P : ℕ → Type 0) (t : ℕ) → P t_not → P t_bv_not → P t_neg → is_un t ≡ true → P t
un-tags P t x y z e = go (eqb t t_not) refl e
  where
    go : (c : Bool) → eqb t t_not ≡ c → cond c true (cond (eqb t t_bv_not) true (eqb t t_neg)) ≡ true → P t
    go true q f = rw (eqb-true t t_not q) x
    go false q f = one_of P t t_bv_not t_neg y z f

pub extend-tags : (P : ℕ → Type 0) (t : ℕ) → P t_zero_ext → P t_sign_ext → is_extend t ≡ true → P t
extend-tags P t x y e = one_of P t t_zero_ext t_sign_ext x y e
