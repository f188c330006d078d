-- Signed numbers of a width up to 64 in i64: they fit, and so does every quotient but one. Assumes nothing.
use Prim.Native.Nat.{ℕ, zero, suc, ◌≤◌, ◌<◌, ◌+◌, ◌-◌, ◌/◌, ◌%◌, ◌^◌}
use mathlib.Core.Bool.{Bool, true, false, true≢false}
use mathlib.Core.Path.{◌≡◌, refl, sym, ap, ◌∙◌}
use mathlib.Core.Logic.{⊎_elim}
use native.Mathlib.Omega.{arith}
use native.Mathlib.Nat.{eq-or-lt_of_le, zero-add, div-le_self, div-one, div-lt_self}
use borrow.Author.Tests.{eq-eqb, lt-ltb, le-ltb, ltb-true}
use lib.Pow.{pow_mono, pow-lt}
use lib.IntN.{ℤ, pos, negsuc, neg_ℤ, nat_abs, ◌-ℤ◌}
use lib.Signed.{mag, lt_z, non_neg, quot_z, rem_z, mag_rem}
use mir.Syntax.{w64}
use mir.Val.{SFits, to_z, of_z}
use mir.ValLaws.{to_z-of_z}
use Rattle.bv.specs.Bv.{negative}
use Rattle.divide.specs.TwosComplement.{to_int, of_int, overflow}
use Rattle.divide.proofs.Signs.{twice, low_of, high-of}

-- ---- i64 alone
-- a number as the code's bits hold it
abbrev held : ℤ → ℤ
held z = to_z w64 (of_z w64 z)

-- a divisor that is not 0 has bits that are not 0
nonzero-bits : (b : ℤ) → (b ≡ pos zero → ⊥) → SFits w64 b → zero < of_z w64 b
nonzero-bits (pos zero) h f = absurd (h refl)
nonzero-bits (pos (suc n)) h f = omega arith
nonzero-bits (negsuc n) h f = omega arith

rem-fits : (a b : ℤ) → SFits w64 a → SFits w64 (rem_z a b)
rem-fits a b f = record { sfits = omega (arith, mag_rem a b) }

mag-minus : (q a : ℕ) → q ≤ suc a → a < 2 ^ 63 → SFits w64 (neg_ℤ (pos q))
mag-minus zero a h l = record { sfits = omega arith }
mag-minus (suc q) a h l = record { sfits = omega arith }

-- a quotient fits unless the least number is divided by -1
quot_fits : (a b : ℤ) → SFits w64 a → (a ≡ negsuc (2 ^ 63 - 1) → b ≡ negsuc zero → ⊥) → SFits w64 (quot_z a b)
quot_fits (pos a) (pos b) f n = record { sfits = omega (arith, div-le_self a b, f.sfits) }
quot_fits (pos a) (negsuc b) f n = mag-minus (a / suc b) a (omega (arith, div-le_self a (suc b))) f.sfits
quot_fits (negsuc a) (pos b) f n = mag-minus _ a (div-le_self (suc a) b) f.sfits
quot_fits (negsuc a) (negsuc zero) f n =
    let h : a ≡ 2 ^ 63 - 1 → ⊥ = λ e. n (ap negsuc e) refl in
    record { sfits = rw div-one (omega (arith, f.sfits)) }
quot_fits (negsuc a) (negsuc (suc b)) f n =
    let h : suc a / suc (suc b) < suc a = div-lt_self (omega arith) (omega arith) in
    record { sfits = omega (arith, f.sfits) }

pub to_z-low : (x : ℕ) → x < 2 ^ 63 → to_z w64 x ≡ pos x
to_z-low x h = simp (lt-ltb _ _ h)

neg-one-sub : (n : ℕ) → negsuc zero -ℤ pos n ≡ negsuc n
neg-one-sub zero = refl
neg-one-sub (suc n) = rw zero-add

-- ---- reading a word
abbrev pub Word : ℕ → ℕ → Type 0
Word w a = (0 < w) × (w ≤ 64) × (a < 2 ^ w)

half-64 : (w : ℕ) → w ≤ 64 → 2 ^ (w - 1) ≤ 2 ^ 63
half-64 w h = pow_mono {j = 63} (omega arith)

pub low-63 : (w a : ℕ) → Word w a → negative w a ≡ false → a < 2 ^ 63
low-63 w a p e = omega (arith, low_of w a p.0 p.2 e, half-64 w p.1)

pub high-63 : (w a : ℕ) → Word w a → negative w a ≡ true → 2 ^ w - 1 - a < 2 ^ 63
high-63 w a p e = omega (arith, high-of w a p.0 p.2 e, half-64 w p.1, twice w p.0)

read_low : (w a : ℕ) → Word w a → negative w a ≡ false → to_int w a ≡ pos a
read_low w a p e = simp (lt-ltb _ _ (low_of w a p.0 p.2 e))

read-high : (w a : ℕ) → Word w a → negative w a ≡ true → to_int w a ≡ negsuc (2 ^ w - 1 - a)
read-high w a p e =
    let s : 2 ^ w - a ≡ suc (2 ^ w - 1 - a) = omega arith in
    simp (le-ltb _ _ (high-of w a p.0 p.2 e), s)

-- what the code computes for a word with the top bit, and for one without
pub high-code : (w a : ℕ) → Word w a → negative w a ≡ true → negsuc zero -ℤ to_z w64 (2 ^ w - 1 - a) ≡ to_int w a
high-code w a p e = rw (to_z-low _ (high-63 w a p e), neg-one-sub) (sym (read-high w a p e))

pub low-code : (w a : ℕ) → Word w a → negative w a ≡ false → to_z w64 a ≡ to_int w a
low-code w a p e = to_z-low a (low-63 w a p e) ∙ sym (read_low w a p e)

fits_by : (w a : ℕ) (t : Bool) → Word w a → negative w a ≡ t → SFits w64 (to_int w a)
fits_by w a true p e = rw (read-high w a p e) (record { sfits = high-63 w a p e })
fits_by w a false p e = rw (read_low w a p e) (record { sfits = low-63 w a p e })

pub read_fits : (w a : ℕ) → Word w a → SFits w64 (to_int w a)
read_fits w a p = fits_by w a (negative w a) p refl

-- ---- putting back
below : (z : ℤ) → lt_z z (pos 0) ≡ true → negsuc zero -ℤ z ≡ pos (mag z)
below (pos n) e = absurd (omega (arith, ltb-true n 0 e))
below (negsuc n) e = simp (le-ltb (suc n) 1 (omega arith)) (ap pos (omega arith))

pub above : (z : ℤ) → lt_z z (pos 0) ≡ false → z ≡ pos (mag z)
above (pos n) e = refl
above (negsuc n) e = absurd (true≢false e)

pub back_below : (w : ℕ) (z : ℤ) → lt_z z (pos 0) ≡ true → of_int w z ≡ 2 ^ w - 1 - mag z % 2 ^ w
back_below w (pos n) e = absurd (omega (arith, ltb-true n 0 e))
back_below w (negsuc n) e = refl

-- the code's number and its test of sign are those of its bits
pub code-sign : (z : ℤ) (t : Bool) → SFits w64 z → lt_z (held z) (pos 0) ≡ t → lt_z z (pos 0) ≡ t
code-sign z t f e = ap (λ (y : ℤ). lt_z y (pos 0)) (sym (to_z-of_z w64 z f)) ∙ e

pub below_code : (z : ℤ) → SFits w64 z → lt_z (held z) (pos 0) ≡ true → negsuc zero -ℤ held z ≡ pos (mag z)
below_code z f e = rw (to_z-of_z w64 z f) (below z (code-sign z true f e))

pub above-code : (z : ℤ) → SFits w64 z → lt_z (held z) (pos 0) ≡ false → held z ≡ pos (mag z)
above-code z f e = to_z-of_z w64 z f ∙ above z (code-sign z false f e)

-- ---- dividing
-- a word that reads as -1 - n
neg-by : (w a n : ℕ) (t : Bool) → Word w a → negative w a ≡ t → to_int w a ≡ negsuc n → (2 ^ (w - 1) ≤ a) × (a + suc n ≡ 2 ^ w)
neg-by w a n true p e r =
    let s : suc (2 ^ w - 1 - a) ≡ suc n = ap nat_abs (sym (read-high w a p e) ∙ r) in
    (high-of w a p.0 p.2 e, omega arith)
neg-by w a n false p e r = absurd (true≢false (ap non_neg (sym (read_low w a p e) ∙ r)))

read-nonzero : (w b : ℕ) (t : Bool) → Word w b → (b ≡ 0 → ⊥) → negative w b ≡ t → to_int w b ≡ pos zero → ⊥
read-nonzero w b true p n e r = true≢false (sym (ap non_neg (sym (read-high w b p e) ∙ r)))
read-nonzero w b false p n e r = n (ap nat_abs (sym (read_low w b p e) ∙ r))

-- a number as large as the least i64 has width 64
width-64 : (w : ℕ) → w ≤ 64 → 2 ^ 63 ≤ 2 ^ (w - 1) → w ≡ 64
width-64 w h k = ⊎_elim (λ e. e) (λ l. absurd (small l)) (eq-or-lt_of_le h)
  where
    small : w < 64 → ⊥
    small l =
        let m : 2 ^ (w - 1) < 2 ^ 63 = pow-lt {j = 63} (omega arith) in
        omega arith

-- the least i64 and -1 are read from one word each, at width 64
only-overflow : (w a b : ℕ) → Word w a → Word w b → overflow w a b ≡ false → to_int w a ≡ negsuc (2 ^ 63 - 1) → to_int w b ≡ negsuc zero → ⊥
only-overflow w a b p q o r s =
    let x : (2 ^ (w - 1) ≤ a) × (a + suc (2 ^ 63 - 1) ≡ 2 ^ w) = neg-by w a _ _ p refl r in
    let y : (2 ^ (w - 1) ≤ b) × (b + 1 ≡ 2 ^ w) = neg-by w b _ _ q refl s in
    let e : w ≡ 64 = width-64 w p.1 (omega (arith, x.0, x.1, twice w p.0)) in
    let f : 2 ^ w ≡ 2 ^ 64 = ap (λ (k : ℕ). 2 ^ k) e in
    let g : a ≡ 2 ^ 63 = omega arith in
    let h : b ≡ 2 ^ 64 - 1 = omega arith in
    true≢false (sym (simp (eq-eqb _ _ e, eq-eqb _ _ g, eq-eqb _ _ h)) ∙ o)

-- two words that i64 can divide
abbrev pub Divides : ℕ → ℕ → ℕ → Type 0
Divides w a b = ((0 < w) × (w ≤ 64) × (a < 2 ^ w) × (b < 2 ^ w)) × (b ≡ 0 → ⊥) × (overflow w a b ≡ false)

first : (w a b : ℕ) → Divides w a b → Word w a
first w a b p = (p.0.0, p.0.1, p.0.2)

second : (w a b : ℕ) → Divides w a b → Word w b
second w a b p = (p.0.0, p.0.1, p.0.3)

quotient_fits : (w a b : ℕ) → Divides w a b → SFits w64 (quot_z (to_int w a) (to_int w b))
quotient_fits w a b p =
    quot_fits _ _ (read_fits w a (first w a b p)) (only-overflow w a b (first w a b p) (second w a b p) p.2)

-- what i64's division asks of two numbers that were read
pub can-divide : (w a b : ℕ) (x y : ℤ) → Divides w a b → x ≡ to_int w a → y ≡ to_int w b → (0 < of_z w64 y) × SFits w64 (quot_z (held x) (held y))
can-divide w a b x y p r s =
    let f : SFits w64 (to_int w b) = read_fits w b (second w a b p) in
    rw (r, s, to_z-of_z w64 _ (read_fits w a (first w a b p)), to_z-of_z w64 _ f)
    (nonzero-bits _ (read-nonzero w b _ (second w a b p) p.1 refl) f, quotient_fits w a b p)

-- and the quotient and remainder that it gives
pub quot-code : (w a b : ℕ) (x y : ℤ) → Divides w a b → x ≡ to_int w a → y ≡ to_int w b
    → held (quot_z (held x) (held y)) ≡ quot_z (to_int w a) (to_int w b)
quot-code w a b x y p r s =
    rw (r, s, to_z-of_z w64 _ (read_fits w a (first w a b p)), to_z-of_z w64 _ (read_fits w b (second w a b p)))
    (to_z-of_z w64 _ (quotient_fits w a b p))

pub rem-code : (w a b : ℕ) (x y : ℤ) → Divides w a b → x ≡ to_int w a → y ≡ to_int w b
    → held (rem_z (held x) (held y)) ≡ rem_z (to_int w a) (to_int w b)
rem-code w a b x y p r s =
    let f : SFits w64 (to_int w a) = read_fits w a (first w a b p) in
    rw (r, s, to_z-of_z w64 _ f, to_z-of_z w64 _ (read_fits w b (second w a b p))) (to_z-of_z w64 _ (rem-fits _ _ f))
