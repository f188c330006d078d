-- The shifts in closed form, for every width and amount: SMT-LIB's formulas. Assumes nothing.
use Prim.Native.Nat.{ℕ, ◌≤◌, ◌<◌, ◌-◌, ◌*◌, ◌/◌, ◌^◌}
use mathlib.Core.Path.{◌≡◌, refl, sym, ap, ◌∙◌}
use mathlib.Core.Bool.{Bool, true, false, cond}
use native.Mathlib.Nat.{mul-mod_left, mul_assoc, div-eq_of_lt, lt_of_lt_of_le, sub-add_cancel}
use lib.Dec.{ltb}
use lib.Pow.{pow-add, pow_mono}
use borrow.Author.Tests.{ltb-false}
use Rattle.bv.specs.Bv.{nat2bv, bvnot, bvshl, bvlshr, bvashr, negative}

-- a choice whose two cases have one value
choose : (t : Bool) (x y z : ℕ) → (t ≡ true → x ≡ z) → (t ≡ false → y ≡ z) → cond t x y ≡ z
choose true x y z p q = p refl
choose false x y z p q = q refl

-- by w or more, nothing is left below 2 ^ w
shl-out : (w a b : ℕ) → w ≤ b → 0 ≡ nat2bv w (a * 2 ^ b)
shl-out w a b h =
    let e : 2 ^ b ≡ 2 ^ (b - w) * 2 ^ w = ap (λ (k : ℕ). 2 ^ k) (sym (sub-add_cancel h)) ∙ pow-add 2 (b - w) w in
    sym (rw (e, ← mul_assoc, mul-mod_left))

pub shl-law : (w a b : ℕ) → bvshl w a b ≡ nat2bv w (a * 2 ^ b)
shl-law w a b = choose (ltb b w) _ _ _ (λ t. refl) (λ t. shl-out w a b (ltb-false b w t))

pub lshr-law : (w a b : ℕ) → a < 2 ^ w → bvlshr w a b ≡ a / 2 ^ b
lshr-law w a b l =
    choose (ltb b w) _ _ _ (λ t. refl) (λ t. sym (div-eq_of_lt (lt_of_lt_of_le l (pow_mono (ltb-false b w t)))))

-- the two cases of the sign
pub ashr-negative : (w a b : ℕ) → negative w a ≡ true → bvashr w a b ≡ bvnot w (bvlshr w (bvnot w a) b)
ashr-negative w a b e = rw e

pub ashr-positive : (w a b : ℕ) → negative w a ≡ false → bvashr w a b ≡ bvlshr w a b
ashr-positive w a b e = rw e
