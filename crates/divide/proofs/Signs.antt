-- The sign of a word, its negation and the reading as a signed number, at every width. Assumes nothing.
use Prim.Native.Nat.{ℕ, zero, suc, ◌≤◌, ◌<◌, ◌+◌, ◌-◌, ◌/◌, ◌^◌}
use mathlib.Core.Bool.{Bool, true, false, not, cond}
use mathlib.Core.Path.{◌≡◌, refl, ap, ◌∙◌}
use native.Mathlib.Omega.{arith}
use native.Mathlib.Nat.{mod-eq_of_lt, mod_self, zero-mod, sub-zero, div-eq_of_lt, div-eq_of_lt-le}
use borrow.Author.Tests.{ltb-true, ltb-false}
use lib.Dec.{ltb}
use lib.Pow.{pow_pos, pow-sub-lt}
use lib.IntN.{pos, neg_ℤ}
use Rattle.bv.proofs.Fits.{double}
use Rattle.bv.specs.Bv.{bvneg, negative}
use Rattle.divide.specs.TwosComplement.{to_int, of_int}

-- the power of a width is twice that of its top bit
pub twice : (w : ℕ) → 0 < w → 2 ^ w ≡ 2 ^ (w - 1) + 2 ^ (w - 1)
twice w h = omega (arith, double w h)

low_half : (w a : ℕ) → a < 2 ^ (w - 1) → negative w a ≡ false
low_half w a h = simp (div-eq_of_lt h)

high_half : (w a : ℕ) → 0 < w → a < 2 ^ w → 2 ^ (w - 1) ≤ a → negative w a ≡ true
high_half w a h l k =
    let e : 2 ^ w ≡ 2 ^ (w - 1) + 2 ^ (w - 1) = twice w h in
    let q : a / 2 ^ (w - 1) ≡ 1 = div-eq_of_lt-le (2 ^ (w - 1)) (omega arith) (omega arith) in
    simp q

sign-by : (w a : ℕ) (t : Bool) → 0 < w → a < 2 ^ w → ltb a (2 ^ (w - 1)) ≡ t → t ≡ not (negative w a)
sign-by w a true h l p = rw (low_half w a (ltb-true _ _ p))
sign-by w a false h l p = rw (high_half w a h l (ltb-false _ _ p))

-- the words without the top bit are the lower half, those with it the upper
pub low_of : (w a : ℕ) → 0 < w → a < 2 ^ w → negative w a ≡ false → a < 2 ^ (w - 1)
low_of w a h l e = ltb-true _ _ (sign-by w a _ h l refl ∙ ap not e)

pub high-of : (w a : ℕ) → 0 < w → a < 2 ^ w → negative w a ≡ true → 2 ^ (w - 1) ≤ a
high-of w a h l e = ltb-false _ _ (sign-by w a _ h l refl ∙ ap not e)

-- a word that is not 0 is negated by the distance to the power
pub neg-sub : (w a : ℕ) → 0 < a → bvneg w a ≡ 2 ^ w - a
neg-sub w a h = mod-eq_of_lt (pow-sub-lt w h)

pub neg-neg : (w a : ℕ) → a < 2 ^ w → bvneg w (bvneg w a) ≡ a
neg-neg w zero l = rw (sub-zero, mod_self, sub-zero, mod_self)
neg-neg w (suc a) l = rw (neg-sub w (suc a) (omega arith), neg-sub w (2 ^ w - suc a) (omega arith)) (omega arith)

-- a word is read by its sign
read_by : (w a : ℕ) (t : Bool) → 0 < w → a < 2 ^ w → ltb a (2 ^ (w - 1)) ≡ t → to_int w a ≡ cond (negative w a) (neg_ℤ (pos (bvneg w a))) (pos a)
read_by w a true h l p = rw (p, low_half w a (ltb-true _ _ p))
read_by w a false h l p =
    let k : 2 ^ (w - 1) ≤ a = ltb-false _ _ p in
    rw (p, high_half w a h l k, neg-sub w a (omega (arith, pow_pos (w - 1))))

pub read-sign : (w a : ℕ) → 0 < w → a < 2 ^ w → to_int w a ≡ cond (negative w a) (neg_ℤ (pos (bvneg w a))) (pos a)
read-sign w a h l = read_by w a (ltb a (2 ^ (w - 1))) h l refl

-- a word put back
pub back-pos : (w q : ℕ) → q < 2 ^ w → of_int w (pos q) ≡ q
back-pos w q h = mod-eq_of_lt h

pub back-neg : (w q : ℕ) → q < 2 ^ w → of_int w (neg_ℤ (pos q)) ≡ bvneg w q
back-neg w zero h = rw (zero-mod, sub-zero, mod_self)
back-neg w (suc q) h =
    let l : q < 2 ^ w = omega arith in
    rw (mod-eq_of_lt l, neg-sub w (suc q) (omega arith)) (omega arith)
