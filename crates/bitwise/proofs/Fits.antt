-- Every operator's value has its width, at every width. Assumes nothing.
use Prim.Native.Nat.{ℕ, zero, suc, ◌<◌, ◌-◌, ◌*◌, ◌%◌, ◌^◌, min, max}
use native.Mathlib.Omega.{arith}
use native.Mathlib.Nat.{mod-lt}
use lib.Pow.{pow_pos, shr_le}
use Rattle.bv.specs.Bits.{bit}
use Rattle.bv.specs.Bv.{bvnot, bvand, bvor, bvxor, bvshl, bvlshr, bvashr, bvrotr, bvrotl, rotate_right, rotate_left, negative}
use Rattle.bv.proofs.Fits.{either_lt}
use Rattle.bitwise.proofs.Digits.{bit-lt, of_bits_fits}
use Rattle.bitwise.proofs.Shift.{shl-law, lshr-law}
use Rattle.bitwise.proofs.Turn.{right, left, right-fits, left-fits}

pub not-fits : (w a : ℕ) → bvnot w a < 2 ^ w
not-fits w a = of_bits_fits w (λ k. 1 - bit a k) (λ k. omega arith)

pub and-fits : (w a b : ℕ) → bvand w a b < 2 ^ w
and-fits w a b = of_bits_fits w (λ k. min (bit a k) (bit b k)) (λ k. omega (arith, bit-lt a k))

pub or-fits : (w a b : ℕ) → bvor w a b < 2 ^ w
or-fits w a b = of_bits_fits w (λ k. max (bit a k) (bit b k)) (λ k. omega (arith, bit-lt a k, bit-lt b k))

pub xor-fits : (w a b : ℕ) → bvxor w a b < 2 ^ w
xor-fits w a b = or-fits w (bvand w a (bvnot w b)) (bvand w (bvnot w a) b)

pub shl-fits : (w a b : ℕ) → bvshl w a b < 2 ^ w
shl-fits w a b = rw (shl-law w a b) (mod-lt (a * 2 ^ b) (pow_pos w))

pub lshr-fits : (w a b : ℕ) → a < 2 ^ w → bvlshr w a b < 2 ^ w
lshr-fits w a b l = rw (lshr-law w a b l) (omega (arith, shr_le a b))

pub ashr-fits : (w a b : ℕ) → a < 2 ^ w → bvashr w a b < 2 ^ w
ashr-fits w a b l = either_lt (negative w a) _ _ _ (not-fits w (bvlshr w (bvnot w a) b)) (lshr-fits w a b l)

rotate-right-fits : (w k a : ℕ) → 0 < w → a < 2 ^ w → rotate_right w k a < 2 ^ w
unfolding rotate_right
rotate-right-fits w zero a h l = l
rotate-right-fits w (suc k) a h l = rotate-right-fits w k (right w a) h (right-fits w a h l)

rotate-left-fits : (w k a : ℕ) → 0 < w → a < 2 ^ w → rotate_left w k a < 2 ^ w
unfolding rotate_left
rotate-left-fits w zero a h l = l
rotate-left-fits w (suc k) a h l = rotate-left-fits w k (left w a) h (left-fits w a h)

pub rotr-fits : (w a b : ℕ) → 0 < w → a < 2 ^ w → bvrotr w a b < 2 ^ w
rotr-fits w a b = rotate-right-fits w (b % w) a

pub rotl-fits : (w a b : ℕ) → 0 < w → a < 2 ^ w → bvrotl w a b < 2 ^ w
rotl-fits w a b = rotate-left-fits w (b % w) a
