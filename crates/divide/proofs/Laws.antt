-- Signed division and remainder of words are those of the signed numbers they stand for, at every width. Assumes nothing.
use Prim.Native.Nat.{ℕ, zero, suc, ◌<◌, ◌-◌, ◌/◌, ◌%◌, ◌^◌}
use mathlib.Core.Bool.{Bool, true, false, cond, true≢false}
use mathlib.Core.Path.{◌≡◌, refl, sym, ◌∙◌}
use native.Mathlib.Omega.{arith}
use native.Mathlib.Nat.{zero-mod, zero-div, div-zero, mod-zero, div-le_self, mod-le, mod-eq_of_lt}
use borrow.Author.Tests.{ne_eqb, eqb-true}
use lib.Dec.{eqb, eqb-suc-zero}
use lib.Pow.{pow-lt}
use lib.IntN.{ℤ, pos, neg_ℤ, nat_abs}
use lib.Signed.{quot_z, rem_z}
use Rattle.bv.specs.Bv.{bvneg, bvudiv, bvurem, bvsdiv, bvsrem, negative}
use Rattle.divide.specs.TwosComplement.{to_int, of_int, overflow}
use Rattle.bv.proofs.Fits.{neg-fits}
use Rattle.divide.proofs.Fits.{choose}
use Rattle.divide.proofs.Signs.{read-sign, neg-sub, back-pos, back-neg, neg-neg}

-- ---- quotients and remainders of signed numbers given by sign and magnitude
quot-np : (m n : ℕ) → quot_z (neg_ℤ (pos m)) (pos n) ≡ neg_ℤ (pos (m / n))
quot-np zero n = rw zero-div
quot-np (suc m) n = refl

quot-pn : (m n : ℕ) → quot_z (pos m) (neg_ℤ (pos n)) ≡ neg_ℤ (pos (m / n))
quot-pn m zero = rw div-zero
quot-pn m (suc n) = refl

quot-nn : (m n : ℕ) → quot_z (neg_ℤ (pos m)) (neg_ℤ (pos n)) ≡ pos (m / n)
quot-nn zero zero = rw zero-div
quot-nn zero (suc n) = rw zero-div
quot-nn (suc m) zero = rw div-zero
quot-nn (suc m) (suc n) = refl

abs_neg : (n : ℕ) → nat_abs (neg_ℤ (pos n)) ≡ n
abs_neg zero = refl
abs_neg (suc n) = refl

rem-neg : (m : ℕ) (d : ℤ) → rem_z (neg_ℤ (pos m)) d ≡ neg_ℤ (pos (m % nat_abs d))
rem-neg zero d = rw zero-mod
rem-neg (suc m) d = refl

-- ---- the unsigned operators where no case is left
pub udiv-quot : (w a b : ℕ) → (b ≡ 0 → ⊥) → bvudiv w a b ≡ a / b
udiv-quot w a b h = simp (ne_eqb _ _ h)

urem-by : (w a b : ℕ) → bvurem w a b ≡ a % b
urem-by w a zero = rw mod-zero
urem-by w a (suc b) = rw eqb-suc-zero

div-lt : (w a b : ℕ) → a < 2 ^ w → a / b < 2 ^ w
div-lt w a b h = omega (arith, div-le_self a b)

rem_lt : (w a b : ℕ) → a < 2 ^ w → a % b < 2 ^ w
rem_lt w a b h = omega (arith, mod-le a b)

-- the negation of a word that is not 0 is not 0
neg-nonzero : (w b : ℕ) → b < 2 ^ w → (b ≡ 0 → ⊥) → bvneg w b ≡ 0 → ⊥
neg-nonzero w b l h e =
    let k : 2 ^ w - b ≡ 0 = sym (neg-sub w b (omega arith)) ∙ e in
    omega arith

-- ---- the four cases by sign
abbrev read_by : Bool → ℕ → ℕ → ℤ
read_by s w a = cond s (neg_ℤ (pos (bvneg w a))) (pos a)

abbrev sdiv_by : Bool → Bool → ℕ → ℕ → ℕ → ℕ
sdiv_by s t w a b =
    choose s t (bvudiv w a b) (bvneg w (bvudiv w (bvneg w a) b)) (bvneg w (bvudiv w a (bvneg w b))) (bvudiv w (bvneg w a) (bvneg w b))

abbrev srem_by : Bool → Bool → ℕ → ℕ → ℕ → ℕ
srem_by s t w a b =
    choose s t (bvurem w a b) (bvneg w (bvurem w (bvneg w a) b)) (bvurem w a (bvneg w b)) (bvneg w (bvurem w (bvneg w a) (bvneg w b)))

sdiv-cases : (w a b : ℕ) → a < 2 ^ w → b < 2 ^ w → (b ≡ 0 → ⊥) → (s t : Bool) → sdiv_by s t w a b ≡ of_int w (quot_z (read_by s w a) (read_by t w b))
sdiv-cases w a b l k h true true =
    rw (quot-nn, back-pos w _ (div-lt w (bvneg w a) (bvneg w b) (neg-fits w a))) (udiv-quot w _ _ (neg-nonzero w b k h))
sdiv-cases w a b l k h true false =
    rw (quot-np, back-neg w _ (div-lt w (bvneg w a) b (neg-fits w a)), udiv-quot w (bvneg w a) b h)
sdiv-cases w a b l k h false true =
    rw (quot-pn, back-neg w _ (div-lt w a (bvneg w b) l), udiv-quot w a (bvneg w b) (neg-nonzero w b k h))
sdiv-cases w a b l k h false false = rw (back-pos w _ (div-lt w a b l)) (udiv-quot w a b h)

pub sdiv-law : (w a b : ℕ) → 0 < w → a < 2 ^ w → b < 2 ^ w → (b ≡ 0 → ⊥) → bvsdiv w a b ≡ of_int w (quot_z (to_int w a) (to_int w b))
sdiv-law w a b p l k h =
    rw (read-sign w a p l, read-sign w b p k) (sdiv-cases w a b l k h (negative w a) (negative w b))

srem-cases : (w a b : ℕ) → a < 2 ^ w → (s t : Bool) → srem_by s t w a b ≡ of_int w (rem_z (read_by s w a) (read_by t w b))
srem-cases w a b l true true =
    rw (rem-neg, abs_neg, back-neg w _ (rem_lt w (bvneg w a) (bvneg w b) (neg-fits w a)), urem-by)
srem-cases w a b l true false = rw (rem-neg, back-neg w _ (rem_lt w (bvneg w a) b (neg-fits w a)), urem-by)
srem-cases w a b l false true = rw (abs_neg, back-pos w _ (rem_lt w a (bvneg w b) l)) (urem-by w a (bvneg w b))
srem-cases w a b l false false = rw (back-pos w _ (rem_lt w a b l)) (urem-by w a b)

-- by 0 as well
pub srem-law : (w a b : ℕ) → 0 < w → a < 2 ^ w → b < 2 ^ w → bvsrem w a b ≡ of_int w (rem_z (to_int w a) (to_int w b))
srem-law w a b p l k =
    rw (read-sign w a p l, read-sign w b p k) (srem-cases w a b l (negative w a) (negative w b))

-- ---- by 0
zero-sign : (w : ℕ) → negative w 0 ≡ false
zero-sign w = simp zero-div

-- minus all ones is 1
neg-ones : (w : ℕ) → 0 < w → bvneg w (2 ^ w - 1) ≡ 1
neg-ones w h =
    let l : 1 < 2 ^ w = pow-lt {i = 0} h in
    let e : 2 ^ w - (2 ^ w - 1) ≡ 1 = omega arith in
    rw e (mod-eq_of_lt l)

pub sdiv-zero : (w a : ℕ) → 0 < w → bvsdiv w a 0 ≡ cond (negative w a) 1 (2 ^ w - 1)
sdiv-zero w a h = rw (zero-sign, neg-ones w h)

same : (s : Bool) (x : ℕ) → cond s x x ≡ x
same true x = refl
same false x = refl

pub srem-zero : (w a : ℕ) → a < 2 ^ w → bvsrem w a 0 ≡ a
srem-zero w a l = rw (zero-sign, neg-neg w a l) (same (negative w a) a)

-- ---- at width 64, the least number by minus one
all_true : (s t u : Bool) → cond s (cond t u false) false ≡ true → (s ≡ true) × (t ≡ true) × (u ≡ true)
all_true true true true e = (refl, refl, refl)
all_true true true false e = absurd (true≢false (sym e))
all_true true false u e = absurd (true≢false (sym e))
all_true false t u e = absurd (true≢false (sym e))

overflow-is : (w a b : ℕ) → overflow w a b ≡ true → (w ≡ 64) × (a ≡ 2 ^ 63) × (b ≡ 2 ^ 64 - 1)
overflow-is w a b e =
    let h = all_true (eqb w 64) (eqb a (2 ^ 63)) (eqb b (2 ^ 64 - 1)) e in
    (eqb-true _ _ h.0, eqb-true _ _ h.1, eqb-true _ _ h.2)

pub sdiv-overflow : (w a b : ℕ) → overflow w a b ≡ true → bvsdiv w a b ≡ a
sdiv-overflow w a b e = let h = overflow-is w a b e in rw (h.0, h.1, h.2)

pub srem-overflow : (w a b : ℕ) → overflow w a b ≡ true → bvsrem w a b ≡ 0
srem-overflow w a b e = let h = overflow-is w a b e in rw (h.0, h.1, h.2)
