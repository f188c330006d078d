-- The bitwise operators against the word's: not, and, or, xor at every width. Assumes nothing.
use Prim.Native.Nat.{ℕ, zero, suc, ◌<◌, ◌-◌, ◌/◌, ◌^◌, min, max}
use mathlib.Core.Path.{◌≡◌, refl, sym, ap, ap₂, ◌∙◌}
use native.Mathlib.Omega.{arith}
use native.Mathlib.Nat.{mod-eq_of_lt}
use lib.Bits.{bit_and, bit_or, bit_xor, differ, and_shr, and_step, and_lt, or_shr, or_step, or_lt, xor_shr, xor_step, xor_lt}
use Rattle.bv.specs.Bits.{bit, of_bits}
use Rattle.bv.specs.Bv.{bvnot, bvand, bvor, bvxor}
use Rattle.bitwise.proofs.Digits.{bit-lt, of_bits-cong, of_bits-of, bit-of_bits, of_bits-not}

-- bits that are those of a number of width w make it
from_bits : (w a : ℕ) (f : ℕ → ℕ) → a < 2 ^ w → ((k : ℕ) → k < w → f k ≡ bit a k) → of_bits w f ≡ a
from_bits w a f l h = of_bits-cong w f (bit a) h ∙ of_bits-of w a ∙ mod-eq_of_lt l

and-bit : (a b k : ℕ) → min (bit a k) (bit b k) ≡ bit (bit_and a b) k
and-bit a b k = rw (and_shr a b k) (omega (arith, and_step (a / 2 ^ k) (b / 2 ^ k)))

or-bit : (a b k : ℕ) → max (bit a k) (bit b k) ≡ bit (bit_or a b) k
or-bit a b k = rw (or_shr a b k) (omega (arith, or_step (a / 2 ^ k) (b / 2 ^ k)))

-- one differs from the other: one without the other, or the other without the one
differ-bit : (x y : ℕ) → x < 2 → y < 2 → max (min x (1 - y)) (min (1 - x) y) ≡ differ x y
differ-bit zero zero p q = refl
differ-bit zero (suc zero) p q = refl
differ-bit (suc zero) zero p q = refl
differ-bit (suc zero) (suc zero) p q = refl
differ-bit (suc (suc x)) y p q = absurd (omega arith)
differ-bit zero (suc (suc y)) p q = absurd (omega arith)
differ-bit (suc zero) (suc (suc y)) p q = absurd (omega arith)

xor-bit : (a b k : ℕ) → max (min (bit a k) (1 - bit b k)) (min (1 - bit a k) (bit b k)) ≡ bit (bit_xor a b) k
xor-bit a b k =
    let d = differ-bit (bit a k) (bit b k) (bit-lt a k) (bit-lt b k) in
    let l : differ (bit a k) (bit b k) < 2 = rw (← d) (omega (arith, bit-lt a k, bit-lt b k)) in
    d ∙ sym (rw (xor_shr a b k) (omega (arith, xor_step (a / 2 ^ k) (b / 2 ^ k))))

pub and-law : (w a b : ℕ) → a < 2 ^ w → b < 2 ^ w → bvand w a b ≡ bit_and a b
and-law w a b p q = from_bits w (bit_and a b) (λ k. min (bit a k) (bit b k)) (and_lt w a b p q) (λ k l. and-bit a b k)

pub or-law : (w a b : ℕ) → a < 2 ^ w → b < 2 ^ w → bvor w a b ≡ bit_or a b
or-law w a b p q = from_bits w (bit_or a b) (λ k. max (bit a k) (bit b k)) (or_lt w a b p q) (λ k l. or-bit a b k)

pub not-law : (w a : ℕ) → a < 2 ^ w → bvnot w a ≡ 2 ^ w - 1 - a
not-law w a p = omega (arith, of_bits-not w (bit a) (bit-lt a), of_bits-of w a, mod-eq_of_lt p)

-- bit k of a conjunction with a negation
without : (w a b k : ℕ) → k < w → bit (bvand w a (bvnot w b)) k ≡ min (bit a k) (1 - bit b k)
without w a b k l =
    bit-of_bits w (λ j. min (bit a j) (bit (bvnot w b) j)) k (λ j. omega (arith, bit-lt a j)) l
    ∙ ap (min (bit a k)) (bit-of_bits w (λ j. 1 - bit b j) k (λ j. omega arith) l)

without-l : (w a b k : ℕ) → k < w → bit (bvand w (bvnot w a) b) k ≡ min (1 - bit a k) (bit b k)
without-l w a b k l =
    bit-of_bits w (λ j. min (bit (bvnot w a) j) (bit b j)) k (λ j. omega (arith, bit-lt b j)) l
    ∙ ap (λ (x : ℕ). min x (bit b k)) (bit-of_bits w (λ j. 1 - bit a j) k (λ j. omega arith) l)

pub xor-law : (w a b : ℕ) → a < 2 ^ w → b < 2 ^ w → bvxor w a b ≡ bit_xor a b
xor-law w a b p q =
    from_bits w (bit_xor a b) (λ k. max (bit (bvand w a (bvnot w b)) k) (bit (bvand w (bvnot w a) b) k)) (xor_lt w a b p q)
    (λ k l. ap₂ max (without w a b k l) (without-l w a b k l) ∙ xor-bit a b k)
