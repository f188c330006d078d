-- Every operator's value is a number of the operator's width, at every width. Assumes nothing.
use Rattle.std.proofs.Common.{ℕ, ◌+◌, ◌-◌, ◌*◌, ◌^◌, ◌<◌, ◌≤◌, lt_of_lt_of_le, mod-lt, add_comm, pow_pos, pow_mono, pow-add}
use lib.Arith.{digits_lt}
use lib.Pow.{ones_lt}
use Rattle.bv.proofs.Fits.{nat2bv-fits, either_lt}
use Rattle.bv.specs.Bv.{bvneg, bvadd, bvsub, bvmul, negative, concat, extract, zero-extend, sign-extend}

-- ---- sums and products are remainders
pub add-fits : (w a b : ℕ) → bvadd w a b < 2 ^ w
add-fits w a b = nat2bv-fits w (a + b)

pub sub-fits : (w a b : ℕ) → bvsub w a b < 2 ^ w
sub-fits w a b = nat2bv-fits w (a + bvneg w b)

pub mul-fits : (w a b : ℕ) → bvmul w a b < 2 ^ w
mul-fits w a b = nat2bv-fits w (a * b)

-- ---- parts
pub extract-fits : (i j a : ℕ) → extract i j a < 2 ^ (i - j + 1)
extract-fits i j a = mod-lt _ (pow_pos (i - j + 1))

pub concat-fits : (u v a b : ℕ) → a < 2 ^ u → b < 2 ^ v → concat v a b < 2 ^ (u + v)
concat-fits u v a b h l = rw (pow-add 2 u v) (digits_lt h l)

-- where the widths make a word at most
pub concat-word : (u v a b : ℕ) → u + v ≤ 64 → a < 2 ^ u → b < 2 ^ v → concat v a b < 2 ^ 64
concat-word u v a b k h l = lt_of_lt_of_le (concat-fits u v a b h l) (pow_mono k)

-- n digits above a number of width w
above-fits : (w n p a : ℕ) → p < 2 ^ n → a < 2 ^ w → concat w p a < 2 ^ (w + n)
above-fits w n p a h l = rw (add_comm w n) (concat-fits n w p a h l)

pub zero-extend-fits : (w n a : ℕ) → a < 2 ^ w → zero-extend w a < 2 ^ (w + n)
zero-extend-fits w n a l = above-fits w n 0 a (pow_pos n) l

pub sign-extend-fits : (w n a : ℕ) → a < 2 ^ w → sign-extend w n a < 2 ^ (w + n)
sign-extend-fits w n a l = above-fits w n _ a (either_lt (negative w a) (2 ^ n - 1) 0 (2 ^ n) (ones_lt n) (pow_pos n)) l
