-- The rotations in closed form: the low part and the high part change places. Assumes nothing.
use Prim.Native.Nat.{ℕ, zero, suc, ◌≤◌, ◌<◌, ◌+◌, ◌-◌, ◌*◌, ◌/◌, ◌%◌, ◌^◌}
use mathlib.Core.Path.{◌≡◌, sym, ap, ◌∙◌}
use native.Mathlib.Omega.{arith}
use native.Mathlib.Nat.{div-one, mod-one, mod-lt, mul-one, add-zero, add_comm, zero-mul, add-mul, mul_assoc, mul_right_comm, pow-suc, pow-succ'}
use native.Mathlib.Nat.{div-div-eq-div-mul, mul-add-div_right, mul-add-mod_self_right, mod-eq_of_lt, div-eq_of_lt, sub-add_cancel}
use lib.Arith.{mod-mul, digits_lt}
use lib.Pow.{pow_pos, pow-add, split, field, shr_lt, shr-shr, shl_exact, mod-mod-pow}
use lib.Bits.{bit_or, or_shifted}
use Rattle.bv.specs.Bv.{concat, msb, rotate_right, rotate_left}
use Rattle.bv.proofs.Word.{top_below}
use Rattle.bv.proofs.Fits.{double}
use Rattle.bitwise.proofs.Digits.{bit-lt}

-- one turn to the right, one to the left
abbrev pub right : ℕ → ℕ → ℕ
right w a = concat (w - 1) (a % 2) (a / 2)

abbrev pub left : ℕ → ℕ → ℕ
left w a = concat 1 (a % 2 ^ (w - 1)) (msb w a)

pub right-fits : (w a : ℕ) → 0 < w → a < 2 ^ w → right w a < 2 ^ w
right-fits w a h l =
    let d : 2 ^ w ≡ 2 * 2 ^ (w - 1) = omega (arith, double w h) in
    rw d (digits_lt (omega arith) (omega arith))

pub left-fits : (w a : ℕ) → 0 < w → left w a < 2 ^ w
left-fits w a h = rw (double w h) (digits_lt (mod-lt a (pow_pos (w - 1))) (omega arith))

-- the quotient and the remainder by one more power of two
shr-suc : (x m : ℕ) → x / 2 ^ suc m ≡ x / 2 / 2 ^ m
shr-suc x m = rw (div-div-eq-div-mul, pow-succ')

mod-suc-pow : (x m : ℕ) → x % 2 ^ suc m ≡ (x / 2 % 2 ^ m) * 2 + x % 2
mod-suc-pow x m = rw (pow-suc 2 m) (mod-mul x (pow_pos m) (pow_pos 1))

-- a bit moved over
carry : (r t p : ℕ) → (r * 2 + t) * p ≡ r * (p * 2) + t * p
carry r t p = add-mul (r * 2) t p ∙ ap (λ (x : ℕ). x + t * p) (mul_right_comm r 2 p ∙ mul_assoc r p 2)

rotr-at : (k m w a : ℕ) → w ≡ m + k → a < 2 ^ w → rotate_right w k a ≡ a / 2 ^ k + (a % 2 ^ k) * 2 ^ m
unfolding rotate_right
rotr-at zero m w a e l = sym (rw (div-one, mod-one, zero-mul, add-zero))
rotr-at (suc k) m w a e l =
    let u : w - 1 ≡ m + k = omega arith in
    let t : right w a ≡ (a % 2) * 2 ^ m * 2 ^ k + a / 2 = rw (u, pow-add 2 m k, mul_assoc (a % 2) (2 ^ m) (2 ^ k)) in
    let q : right w a / 2 ^ k ≡ (a % 2) * 2 ^ m + a / 2 / 2 ^ k = rw t (mul-add-div_right (pow_pos k) ((a % 2) * 2 ^ m) (a / 2)) in
    let r : right w a % 2 ^ k ≡ a / 2 % 2 ^ k = rw t (mul-add-mod_self_right ((a % 2) * 2 ^ m) (2 ^ k) (a / 2)) in
    rotr-at k (suc m) w (right w a) (omega arith) (right-fits w a (omega arith) l)
    ∙ rw (q, r, shr-suc a k, mod-suc-pow a k, pow-suc 2 m) (omega (arith, carry (a / 2 % 2 ^ k) (a % 2) (2 ^ m)))

rotl-at : (k m w a : ℕ) → w ≡ m + k → a < 2 ^ w → rotate_left w k a ≡ (a % 2 ^ m) * 2 ^ k + a / 2 ^ m
unfolding rotate_left
rotl-at zero m w a e l =
    let n : a < 2 ^ m = rw (e, add-zero) at l in
    sym (rw (mod-eq_of_lt n, div-eq_of_lt n, mul-one, add-zero))
rotl-at (suc k) m w a e l =
    let p : 0 < w = omega arith in
    let u : w - 1 ≡ m + k = omega arith in
    let v : w - 1 ≡ k + m = omega arith in
    let h : left w a / 2 ≡ a % 2 ^ (w - 1) = omega arith in
    let t : left w a % 2 ≡ a / 2 ^ m / 2 ^ k =
    mul-add-mod_self_right (a % 2 ^ (w - 1)) 2 (msb w a) ∙ mod-eq_of_lt (bit-lt a (w - 1))
    ∙ mod-eq_of_lt (top_below w a p l) ∙ rw u (sym (shr-shr a m k)) in
    let q : left w a / 2 ^ suc m ≡ a / 2 ^ m % 2 ^ k = shr-suc (left w a) m ∙ rw (h, v) (field a k m) in
    let r : left w a % 2 ^ suc m ≡ (a % 2 ^ m) * 2 + a / 2 ^ m / 2 ^ k =
    mod-suc-pow (left w a) m ∙ rw (h, t, v) (ap (λ (x : ℕ). x * 2 + a / 2 ^ m / 2 ^ k) (mod-mod-pow a k m)) in
    rotl-at k (suc m) w (left w a) (omega arith) (left-fits w a p)
    ∙ rw (q, r, pow-suc 2 k) (omega (arith, carry (a % 2 ^ m) (a / 2 ^ m / 2 ^ k) (2 ^ k), split (a / 2 ^ m) k))

pub rotr-law : (w k a : ℕ) → k ≤ w → a < 2 ^ w → rotate_right w k a ≡ a / 2 ^ k + (a % 2 ^ k) * 2 ^ (w - k)
rotr-law w k a h l = rotr-at k (w - k) w a (omega arith) l

pub rotl-law : (w k a : ℕ) → k ≤ w → a < 2 ^ w → rotate_left w k a ≡ (a % 2 ^ (w - k)) * 2 ^ k + a / 2 ^ (w - k)
rotl-law w k a h l = rotl-at k (w - k) w a (omega arith) l

-- two parts put together in a word
joined : (x y j k : ℕ) → x < 2 ^ j → y < 2 ^ k → j + k ≤ 64 → bit_or ((x * 2 ^ k) % 2 ^ 64) y ≡ x * 2 ^ k + y
joined x y j k p q h = rw (shl_exact j k 64 p h) (or_shifted x k y q)

-- the high part of a number of width w
high_lt : (w k a : ℕ) → k ≤ w → a < 2 ^ w → a / 2 ^ k < 2 ^ (w - k)
high_lt w k a h l = shr_lt (w - k) k (rw (sub-add_cancel h) l)

pub rotr-word : (w k a : ℕ) → k ≤ w → w ≤ 64 → a < 2 ^ w
    → bit_or (((a % 2 ^ k) * 2 ^ (w - k)) % 2 ^ 64) (a / 2 ^ k) ≡ rotate_right w k a
rotr-word w k a h f l =
    joined (a % 2 ^ k) (a / 2 ^ k) k (w - k) (mod-lt a (pow_pos k)) (high_lt w k a h l) (omega arith)
    ∙ add_comm ((a % 2 ^ k) * 2 ^ (w - k)) (a / 2 ^ k) ∙ sym (rotr-law w k a h l)

pub rotl-word : (w k a : ℕ) → k ≤ w → w ≤ 64 → a < 2 ^ w
    → bit_or (((a % 2 ^ (w - k)) * 2 ^ k) % 2 ^ 64) (a / 2 ^ (w - k)) ≡ rotate_left w k a
rotl-word w k a h f l =
    let e : w - (w - k) ≡ k = omega arith in
    joined (a % 2 ^ (w - k)) (a / 2 ^ (w - k)) (w - k) k (mod-lt a (pow_pos (w - k))) (rw e at (high_lt w (w - k) a (omega arith) l)) (omega arith)
    ∙ sym (rotl-law w k a h l)
