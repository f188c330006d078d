-- A product of words by halves of 32 bits, modulo 2 ^ 64. Assumes nothing.
use Rattle.std.proofs.Common.{◌≡◌, ℕ, ◌+◌, ◌*◌, ◌/◌, ◌%◌, ◌^◌, ◌<◌, sym, lt_of_le_of_lt, le_of_lt, mul_assoc, add-mul, mul-le-mul_left}
use Rattle.std.proofs.Common.{mul-lt-mul_of_pos_right, div-add-mod', mul-add, mul_right_comm, arith, pow_pos}
use native.Mathlib.Nat.{mul-mul-mul_comm}

-- the product of two halves is a word
pub halves-fit : (a b : ℕ) → a < 2 ^ 32 → b < 2 ^ 32 → a * b < 2 ^ 64
halves-fit a b ha hb = lt_of_le_of_lt (mul-le-mul_left a (le_of_lt hb)) (mul-lt-mul_of_pos_right ha (pow_pos 32))

-- the product of two numbers of two digits
expand : (p q r s : ℕ) → (p * 2 ^ 32 + q) * (r * 2 ^ 32 + s) ≡ (p * r) * 2 ^ 64 + (p * s) * 2 ^ 32 + (q * r) * 2 ^ 32 + q * s
expand p q r s =
    let a : (p * 2 ^ 32 + q) * (r * 2 ^ 32 + s) ≡ p * 2 ^ 32 * (r * 2 ^ 32 + s) + q * (r * 2 ^ 32 + s) = add-mul _ _ _ in
    let b : p * 2 ^ 32 * (r * 2 ^ 32 + s) ≡ p * 2 ^ 32 * (r * 2 ^ 32) + p * 2 ^ 32 * s = mul-add _ _ _ in
    let d : q * (r * 2 ^ 32 + s) ≡ q * (r * 2 ^ 32) + q * s = mul-add _ _ _ in
    let e : p * 2 ^ 32 * (r * 2 ^ 32) ≡ (p * r) * (2 ^ 32 * 2 ^ 32) = mul-mul-mul_comm _ _ _ _ in
    let f : p * 2 ^ 32 * s ≡ p * s * 2 ^ 32 = mul_right_comm _ _ _ in
    let g : q * (r * 2 ^ 32) ≡ q * r * 2 ^ 32 = sym (mul_assoc _ _ _) in
    omega arith

pub product-low : (a b : ℕ)
    → (a * b) % 2 ^ 64
    ≡ ((a % 2 ^ 32) * (b % 2 ^ 32) + (((a / 2 ^ 32) * (b % 2 ^ 32)) % 2 ^ 32 + ((a % 2 ^ 32) * (b / 2 ^ 32)) % 2 ^ 32) % 2 ^ 32 * 2 ^ 32) % 2 ^ 64
product-low a b =
    let e : a * b ≡ (a / 2 ^ 32 * 2 ^ 32 + a % 2 ^ 32) * (b / 2 ^ 32 * 2 ^ 32 + b % 2 ^ 32) = rw (div-add-mod', div-add-mod') in
    let f = expand (a / 2 ^ 32) (a % 2 ^ 32) (b / 2 ^ 32) (b % 2 ^ 32) in
    rw (e, f) (omega arith)
