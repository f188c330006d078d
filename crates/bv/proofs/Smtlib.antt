-- The operators whose definition is not SMT-LIB's text word for word have the value that the text gives, at every width. Each law stands beside
-- SMT-LIB's formula: [[s]] is a function from places to bits, here `bit s`; m is the width of t. Assumes nothing.
use Prim.Native.Nat.{ℕ, zero, suc, ◌<◌, ◌≤◌, ◌+◌, ◌-◌, ◌*◌, ◌/◌, ◌%◌, ◌^◌}
use mathlib.Core.Path.{◌≡◌, refl, sym, ap, ap₂, ◌∙◌, subst}
use mathlib.Core.Bool.{Bool, true, false, cond, ◌&&◌, ◌||◌}
use native.Mathlib.Omega.{arith}
use native.Mathlib.Nat.{mul_assoc, mul-add-div_right, mul-add-mod_self_right, mod-eq_of_lt, mod-le, div-one, div-le_self, lt_of_le_of_lt, pow-suc}
use borrow.Author.Tests.{le-leb, lt-leb, ltb-true, ltb-false, eqb-true, eqb-false}
use lib.Dec.{eqb, ltb, leb}
use lib.Pow.{pow_pos, pow-add, shr-shr, shr_mod, high, field, mod-mod-pow}
use Rattle.bv.specs.Bits.{bit, of_bits, of_bool}
use Rattle.bv.specs.Bv.{nat2bv, bvnot, bvudiv, bvurem, bvlshr, bvashr, concat, extract, zero-extend, sign-extend, rotate_right, rotate_left}
use Rattle.bv.specs.Bv.{msb, by_signs, bvule, bvslt, bvsle}

-- ---- [[(concat s t)]] := λx:[0, n+m). if (x < m) then [[t]](x) else [[s]](x - m)
low_bit : (v a b k : ℕ) → k < v → bit (concat v a b) k ≡ bit b k
low_bit v a b k h =
    let e : v ≡ v - k - 1 + 1 + k = omega arith in
    let p : 2 ^ v ≡ 2 ^ (v - k - 1) * 2 * 2 ^ k =
    ap (λ (n : ℕ). 2 ^ n) e ∙ pow-add 2 (v - k - 1 + 1) k ∙ ap (λ (x : ℕ). x * 2 ^ k) (pow-add 2 (v - k - 1) 1) in
    let q : a * 2 ^ v ≡ a * 2 ^ (v - k - 1) * 2 * 2 ^ k = rw (p, ← mul_assoc, ← mul_assoc) in
    let r : concat v a b / 2 ^ k ≡ a * 2 ^ (v - k - 1) * 2 + b / 2 ^ k = rw q (mul-add-div_right (pow_pos k) (a * 2 ^ (v - k - 1) * 2) b) in
    rw r (mul-add-mod_self_right (a * 2 ^ (v - k - 1)) 2 (b / 2 ^ k))

high_bit : (v a b k : ℕ) → b < 2 ^ v → v ≤ k → bit (concat v a b) k ≡ bit a (k - v)
high_bit v a b k l h =
    let e : v + (k - v) ≡ k = omega arith in
    let q : concat v a b / 2 ^ k ≡ a / 2 ^ (k - v) =
    ap (λ (n : ℕ). concat v a b / 2 ^ n) (sym e) ∙ sym (shr-shr (concat v a b) v (k - v)) ∙ ap (λ (x : ℕ). x / 2 ^ (k - v)) (high a v l) in
    rw q

pub concat-bit : (v a b k : ℕ) → b < 2 ^ v → bit (concat v a b) k ≡ cond (ltb k v) (bit b k) (bit a (k - v))
concat-bit v a b k l = go (ltb k v) refl
  where
    go : (t : Bool) → ltb k v ≡ t → bit (concat v a b) k ≡ cond t (bit b k) (bit a (k - v))
    go true e = low_bit v a b k (ltb-true k v e)
    go false e = high_bit v a b k l (ltb-false k v e)

-- ---- [[((_ extract i j) s)]] := λx:[0, i-j+1). [[s]](j + x)
pub extract-bit : (i j a k : ℕ) → k ≤ i - j → bit (extract i j a) k ≡ bit a (j + k)
extract-bit i j a k h =
    let e : i - j + 1 ≡ i - j - k + 1 + k = omega arith in
    ap (λ (n : ℕ). a / 2 ^ j % 2 ^ n / 2 ^ k % 2) e ∙ ap (λ (x : ℕ). x % 2) (field (a / 2 ^ j) (i - j - k + 1) k)
    ∙ mod-mod-pow (a / 2 ^ j / 2 ^ k) (i - j - k) 1 ∙ ap (λ (x : ℕ). x % 2) (shr-shr a j k)

-- ---- the tests of the abbreviations, in SMT-LIB's words; [[(bvult s t)]] := true iff bv2nat([[s]]) < bv2nat([[t]])
-- ((_ extract |m-1| |m-1|) s)
abbrev pub top : ℕ → ℕ → ℕ
top w a = extract (w - 1) (w - 1) a

-- (bvule s t) abbreviates (or (bvult s t) (= s t))
abbrev pub ule : ℕ → ℕ → Bool
ule a b = ltb a b || eqb a b

-- (bvslt s t) abbreviates (or (and (= ((_ extract |m-1| |m-1|) s) #b1) (= ((_ extract |m-1| |m-1|) t) #b0))
-- (and (= ((_ extract |m-1| |m-1|) s) ((_ extract |m-1| |m-1|) t)) (bvult s t)))
abbrev pub slt : ℕ → ℕ → ℕ → Bool
slt w a b = eqb (top w a) 1 && eqb (top w b) 0 || eqb (top w a) (top w b) && ltb a b

-- (bvsle s t) abbreviates the same with (bvule s t) in place of (bvult s t)
abbrev pub sle : ℕ → ℕ → ℕ → Bool
sle w a b = eqb (top w a) 1 && eqb (top w b) 0 || eqb (top w a) (top w b) && ule a b

leb-law : (a b : ℕ) → leb a b ≡ ule a b
leb-law a b = go (ltb a b) (eqb a b) refl refl
  where
    go : (t u : Bool) → ltb a b ≡ t → eqb a b ≡ u → leb a b ≡ (t || u)
    go true u e f = le-leb a b (omega (arith, ltb-true a b e))
    go false true e f = le-leb a b (omega (arith, eqb-true a b f))
    go false false e f = lt-leb a b (omega (arith, ltb-false a b e, eqb-false a b f))

pub ule-law : (a b : ℕ) → bvule a b ≡ of_bool (ule a b)
ule-law a b = ap of_bool (leb-law a b)

-- the top bit is the one that SMT-LIB extracts
pub msb-law : (w a : ℕ) → msb w a ≡ top w a
msb-law w a = let e : 1 ≡ w - 1 - (w - 1) + 1 = omega arith in ap (λ (n : ℕ). a / 2 ^ (w - 1) % 2 ^ n) e

-- a choice by two sign bits whose cases of one sign are one test
by_bits : (x y : ℕ) (t : Bool) → x < 2 → y < 2
    → cond (eqb x 1) (cond (eqb y 1) (of_bool t) 1) (cond (eqb y 1) 0 (of_bool t)) ≡ of_bool (eqb x 1 && eqb y 0 || eqb x y && t)
by_bits zero zero t h l = refl
by_bits zero (suc zero) t h l = refl
by_bits (suc zero) zero t h l = refl
by_bits (suc zero) (suc zero) t h l = refl
by_bits zero (suc (suc y)) t h l = absurd (omega arith)
by_bits (suc zero) (suc (suc y)) t h l = absurd (omega arith)
by_bits (suc (suc x)) y t h l = absurd (omega arith)

by-tops : (w a b : ℕ) (t : Bool)
    → by_signs w a b (of_bool t) 1 0 (of_bool t) ≡ of_bool (eqb (top w a) 1 && eqb (top w b) 0 || eqb (top w a) (top w b) && t)
by-tops w a b t =
    rw (← msb-law w a, ← msb-law w b) (by_bits (msb w a) (msb w b) t (omega arith) (omega arith))

pub slt-law : (w a b : ℕ) → bvslt w a b ≡ of_bool (slt w a b)
slt-law w a b = by-tops w a b (ltb a b)

pub sle-law : (w a b : ℕ) → bvsle w a b ≡ of_bool (sle w a b)
sle-law w a b = rw (← leb-law a b) (by-tops w a b (leb a b))

-- ---- [[(bvudiv s t)]] := if bv2nat([[t]]) = 0 then λx:[0, m). 1 else nat2bv[m](bv2nat([[s]]) div bv2nat([[t]]))
ones-bits : (w : ℕ) → 2 ^ w - 1 ≡ of_bits w (λ k. 1)
unfolding of_bits
ones-bits zero = refl
ones-bits (suc w) = omega (arith, pow-suc 2 w, pow_pos w, ones-bits w)

pub udiv-law : (w a b : ℕ) → a < 2 ^ w → bvudiv w a b ≡ cond (eqb b 0) (of_bits w (λ k. 1)) (nat2bv w (a / b))
udiv-law w a b l = ap₂ (cond (eqb b 0)) (ones-bits w) (sym (mod-eq_of_lt (lt_of_le_of_lt (div-le_self a b) l)))

-- [[(bvurem s t)]] := if bv2nat([[t]]) = 0 then [[s]] else nat2bv[m](bv2nat([[s]]) rem bv2nat([[t]]))
pub urem-law : (w a b : ℕ) → a < 2 ^ w → bvurem w a b ≡ cond (eqb b 0) a (nat2bv w (a % b))
urem-law w a b l = ap (cond (eqb b 0) a) (sym (mod-eq_of_lt (lt_of_le_of_lt (mod-le a b) l)))

-- ---- the choice of bvsdiv and bvsrem: (ite (and (= ?msb_s #b0) (= ?msb_t #b0)) pp (ite (and (= ?msb_s #b1) (= ?msb_t #b0)) np
-- (ite (and (= ?msb_s #b0) (= ?msb_t #b1)) pn nn)))
by-text : (x y pp np pn nn : ℕ) → x < 2 → y < 2
    → cond (eqb x 1) (cond (eqb y 1) nn np) (cond (eqb y 1) pn pp)
    ≡ cond (eqb x 0 && eqb y 0) pp (cond (eqb x 1 && eqb y 0) np (cond (eqb x 0 && eqb y 1) pn nn))
by-text zero zero pp np pn nn h l = refl
by-text zero (suc zero) pp np pn nn h l = refl
by-text (suc zero) zero pp np pn nn h l = refl
by-text (suc zero) (suc zero) pp np pn nn h l = refl
by-text zero (suc (suc y)) pp np pn nn h l = absurd (omega arith)
by-text (suc zero) (suc (suc y)) pp np pn nn h l = absurd (omega arith)
by-text (suc (suc x)) y pp np pn nn h l = absurd (omega arith)

pub signs-law : (w a b pp np pn nn : ℕ)
    → by_signs w a b pp np pn nn
    ≡ cond (eqb (top w a) 0 && eqb (top w b) 0) pp (cond (eqb (top w a) 1 && eqb (top w b) 0) np (cond (eqb (top w a) 0 && eqb (top w b) 1) pn nn))
signs-law w a b pp np pn nn =
    rw (← msb-law w a, ← msb-law w b) (by-text (msb w a) (msb w b) pp np pn nn (omega arith) (omega arith))

-- ---- (bvashr s t) abbreviates (ite (= ((_ extract |m-1| |m-1|) s) #b0) (bvlshr s t) (bvnot (bvlshr (bvnot s) t)))
other_way : (x p q : ℕ) → x < 2 → cond (eqb x 1) p q ≡ cond (eqb x 0) q p
other_way zero p q h = refl
other_way (suc zero) p q h = refl
other_way (suc (suc x)) p q h = absurd (omega arith)

pub ashr-text : (w a b : ℕ) → bvashr w a b ≡ cond (eqb (top w a) 0) (bvlshr w a b) (bvnot w (bvlshr w (bvnot w a) b))
ashr-text w a b = rw (← msb-law w a) (other_way (msb w a) (bvnot w (bvlshr w (bvnot w a) b)) (bvlshr w a b) (omega arith))

-- ---- ((_ repeat i) t) abbreviates (concat t ((_ repeat |i-1|) t)), here of one bit; none where i is 0, as ((_ sign_extend 0) t) abbreviates t
unfoldable pub repeat : ℕ → ℕ → ℕ
repeat zero x = 0
repeat (suc i) x = concat i x (repeat i x)

copies : (i x : ℕ) → x < 2 → cond (eqb x 1) (2 ^ i - 1) 0 ≡ repeat i x
unfolding repeat
copies zero zero h = refl
copies zero (suc zero) h = refl
copies (suc i) zero h = omega (arith, copies i 0 h)
copies (suc i) (suc zero) h = omega (arith, pow-suc 2 i, pow_pos i, copies i 1 h)
copies zero (suc (suc x)) h = absurd (omega arith)
copies (suc i) (suc (suc x)) h = absurd (omega arith)

-- ((_ zero_extend i) t) abbreviates (concat ((_ repeat i) #b0) t)
pub zero-extend-law : (w i a : ℕ) → zero-extend w a ≡ concat w (repeat i 0) a
zero-extend-law w i a = ap (λ (x : ℕ). concat w x a) (copies i 0 (omega arith))

-- ((_ sign_extend i) t) abbreviates (concat ((_ repeat i) ((_ extract |m-1| |m-1|) t)) t)
pub sign-extend-law : (w i a : ℕ) → sign-extend w i a ≡ concat w (repeat i (top w a)) a
sign-extend-law w i a = ap (λ (x : ℕ). concat w x a) (copies i (msb w a) (omega arith) ∙ ap (repeat i) (msb-law w a))

-- ---- ((_ rotate_left i) t) abbreviates t if m = 1, else
-- ((_ rotate_left |i-1|) (concat ((_ extract |m-2| 0) t) ((_ extract |m-1| |m-1|) t)))
pub rotate-left-law : (w i a : ℕ) → 1 < w → rotate_left w (suc i) a ≡ rotate_left w i (concat 1 (extract (w - 2) 0 a) (top w a))
unfolding rotate_left
rotate-left-law w i a h =
    let e : w - 1 ≡ w - 2 - 0 + 1 = omega arith in
    let x : a % 2 ^ (w - 1) ≡ extract (w - 2) 0 a = rw div-one (ap (λ (n : ℕ). a % 2 ^ n) e) in
    ap₂ (λ (x y : ℕ). rotate_left w i (concat 1 x y)) x (msb-law w a)

pub rotate-left-one : (i a : ℕ) → a < 2 → rotate_left 1 i a ≡ a
unfolding rotate_left
rotate-left-one zero a h = refl
rotate-left-one (suc i) a h = let e : concat 1 (a % 1) (msb 1 a) ≡ a = omega arith in rw e (rotate-left-one i a h)

-- ((_ rotate_right i) t) abbreviates t if m = 1, else ((_ rotate_right |i-1|) (concat ((_ extract 0 0) t) ((_ extract |m-1| 1) t)))
pub rotate-right-law : (w i a : ℕ) → 1 < w → a < 2 ^ w
    → rotate_right w (suc i) a ≡ rotate_right w i (concat (w - 1) (extract 0 0 a) (extract (w - 1) 1 a))
unfolding rotate_right
rotate-right-law w i a h l =
    let e : w ≡ w - 1 - 1 + 1 + 1 = omega arith in
    let x : a % 2 ≡ extract 0 0 a = rw div-one in
    let y : a / 2 ≡ extract (w - 1) 1 a = sym (shr_mod (w - 1 - 1 + 1) 1 (subst (λ (n : ℕ). a < 2 ^ n) e l)) in
    ap₂ (λ (x y : ℕ). rotate_right w i (concat (w - 1) x y)) x y

pub rotate-right-one : (i a : ℕ) → a < 2 → rotate_right 1 i a ≡ a
unfolding rotate_right
rotate-right-one zero a h = refl
rotate-right-one (suc i) a h = let e : concat 0 (a % 2) (a / 2) ≡ a = omega arith in rw e (rotate-right-one i a h)
