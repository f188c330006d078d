-- Laws of the number with given bits: its bits, its bound, and every number from its own bits. Assumes nothing.
use Prim.Native.Nat.{ℕ, zero, suc, ◌<◌, ◌+◌, ◌-◌, ◌*◌, ◌/◌, ◌%◌, ◌^◌}
use mathlib.Core.Path.{◌≡◌, refl, sym, ap, ap₂, ◌∙◌}
use native.Mathlib.Omega.{arith}
use native.Mathlib.Nat.{div-div-eq-div-mul, pow-succ', pow-suc, mod-one, div-one}
use lib.Arith.{mod-mul}
use lib.Pow.{pow_pos}
use Rattle.bv.specs.Bits.{bit, of_bits}

pub bit-lt : (a k : ℕ) → bit a k < 2
bit-lt a k = omega arith

-- a higher bit is a bit of the half
pub bit-suc : (a k : ℕ) → bit (a / 2) k ≡ bit a (suc k)
bit-suc a k = rw (div-div-eq-div-mul, pow-succ')

pub of_bits-cong : (w : ℕ) (f g : ℕ → ℕ) → ((k : ℕ) → k < w → f k ≡ g k) → of_bits w f ≡ of_bits w g
unfolding of_bits
of_bits-cong zero f g h = refl
of_bits-cong (suc w) f g h =
    ap₂ (λ (x y : ℕ). x + 2 * y) (h 0 (omega arith)) (of_bits-cong w (λ k. f (suc k)) (λ k. g (suc k)) (λ k l. h (suc k) (omega arith)))

pub of_bits-of : (w a : ℕ) → of_bits w (bit a) ≡ a % 2 ^ w
unfolding of_bits
of_bits-of zero a = sym (mod-one a)
of_bits-of (suc w) a =
    let r : of_bits w (λ k. bit a (suc k)) ≡ a / 2 % 2 ^ w =
    sym (of_bits-cong w (bit (a / 2)) (λ k. bit a (suc k)) (λ k l. bit-suc a k)) ∙ of_bits-of w (a / 2) in
    rw (r, div-one, pow-suc) (omega (arith, mod-mul a (pow_pos w) (pow_pos 1)))

pub of_bits_fits : (w : ℕ) (f : ℕ → ℕ) → ((k : ℕ) → f k < 2) → of_bits w f < 2 ^ w
unfolding of_bits
of_bits_fits zero f h = omega arith
of_bits_fits (suc w) f h = omega (arith, pow-suc 2 w, h 0, of_bits_fits w (λ k. f (suc k)) (λ k. h (suc k)))

pub bit-of_bits : (w : ℕ) (f : ℕ → ℕ) (k : ℕ) → ((k : ℕ) → f k < 2) → k < w → bit (of_bits w f) k ≡ f k
unfolding of_bits
bit-of_bits zero f k h l = absurd (omega arith)
bit-of_bits (suc w) f zero h l = rw div-one (omega (arith, h 0))
bit-of_bits (suc w) f (suc k) h l =
    let q : (f 0 + 2 * of_bits w (λ j. f (suc j))) / 2 ≡ of_bits w (λ j. f (suc j)) = omega (arith, h 0) in
    sym (bit-suc (f 0 + 2 * of_bits w (λ j. f (suc j))) k) ∙ ap (λ (x : ℕ). bit x k) q
    ∙ bit-of_bits w (λ j. f (suc j)) k (λ j. h (suc j)) (omega arith)

-- the bits turned over
pub of_bits-not : (w : ℕ) (f : ℕ → ℕ) → ((k : ℕ) → f k < 2) → of_bits w (λ k. 1 - f k) + of_bits w f + 1 ≡ 2 ^ w
unfolding of_bits
of_bits-not zero f h = refl
of_bits-not (suc w) f h = omega (arith, pow-suc 2 w, h 0, of_bits-not w (λ k. f (suc k)) (λ k. h (suc k)))
