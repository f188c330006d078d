-- The operators' values: SMT-LIB's FixedSizeBitVectors and the abbreviations of its logic QF_BV, over numbers. A bit vector of
-- width w is a number below 2 ^ w (bv2nat), and each operator is one definition for every width. Names are SMT-LIB's. Assumes nothing.
use Rattle.std.specs.Prelude.{ℕ, zero, suc, ◌+◌, ◌*◌, ◌-◌, ◌/◌, ◌%◌, ◌^◌, min, max, Bool, true, false, cond, eqb, ltb, leb}
use Rattle.bv.specs.Bits.{bit, of_bits, of_bool}

-- ---- the theory FixedSizeBitVectors
abbrev pub nat2bv : ℕ → ℕ → ℕ
nat2bv w x = x % 2 ^ w

abbrev pub bvnot : ℕ → ℕ → ℕ
bvnot w a = of_bits w (λ k. 1 - bit a k)

abbrev pub bvand : ℕ → ℕ → ℕ → ℕ
bvand w a b = of_bits w (λ k. min (bit a k) (bit b k))

abbrev pub bvor : ℕ → ℕ → ℕ → ℕ
bvor w a b = of_bits w (λ k. max (bit a k) (bit b k))

abbrev pub bvneg : ℕ → ℕ → ℕ
bvneg w a = nat2bv w (2 ^ w - a)

abbrev pub bvadd : ℕ → ℕ → ℕ → ℕ
bvadd w a b = nat2bv w (a + b)

abbrev pub bvmul : ℕ → ℕ → ℕ → ℕ
bvmul w a b = nat2bv w (a * b)

-- by 0: all ones (SMT-LIB's convention, and 01's)
abbrev pub bvudiv : ℕ → ℕ → ℕ → ℕ
bvudiv w a b = cond (eqb b 0) (2 ^ w - 1) (a / b)

-- by 0: the dividend (SMT-LIB's convention, and 01's)
abbrev pub bvurem : ℕ → ℕ → ℕ → ℕ
bvurem w a b = cond (eqb b 0) a (a % b)

-- by w or more: 0 (01's words; SMT-LIB's formulas have no such case, and `shl-law`, `lshr-law` join the two)
abbrev pub bvshl : ℕ → ℕ → ℕ → ℕ
bvshl w a b = cond (ltb b w) (nat2bv w (a * 2 ^ b)) 0

abbrev pub bvlshr : ℕ → ℕ → ℕ → ℕ
bvlshr w a b = cond (ltb b w) (a / 2 ^ b) 0

-- the first operand high; the second has width v
abbrev pub concat : ℕ → ℕ → ℕ → ℕ
concat v a b = a * 2 ^ v + b

abbrev pub extract : ℕ → ℕ → ℕ → ℕ
extract i j a = a / 2 ^ j % 2 ^ (i - j + 1)

abbrev pub bvult : ℕ → ℕ → ℕ
bvult a b = of_bool (ltb a b)

-- ---- the abbreviations of QF_BV
abbrev pub bvxor : ℕ → ℕ → ℕ → ℕ
bvxor w a b = bvor w (bvand w a (bvnot w b)) (bvand w (bvnot w a) b)

abbrev pub bvsub : ℕ → ℕ → ℕ → ℕ
bvsub w a b = bvadd w a (bvneg w b)

-- the top bit, ((_ extract |w-1| |w-1|) a)
abbrev pub msb : ℕ → ℕ → ℕ
msb w a = bit a (w - 1)

-- whether a number of width w stands for a negative one
abbrev pub negative : ℕ → ℕ → Bool
negative w a = eqb (msb w a) 1

-- a choice by the signs of both: neither negative, the first, the second, both
abbrev pub by_signs : ℕ → ℕ → ℕ → ℕ → ℕ → ℕ → ℕ → ℕ
by_signs w a b pp np pn nn = cond (negative w a) (cond (negative w b) nn np) (cond (negative w b) pn pp)

-- truncates towards 0; by 0 it gives 1 for a negative dividend, else all ones, and the least number by minus one is the least number
-- (all three follow from SMT-LIB's abbreviation)
abbrev pub bvsdiv : ℕ → ℕ → ℕ → ℕ
bvsdiv w a b =
    by_signs w a b (bvudiv w a b) (bvneg w (bvudiv w (bvneg w a) b)) (bvneg w (bvudiv w a (bvneg w b))) (bvudiv w (bvneg w a) (bvneg w b))

-- the dividend's sign; by 0 the dividend
abbrev pub bvsrem : ℕ → ℕ → ℕ → ℕ
bvsrem w a b =
    by_signs w a b (bvurem w a b) (bvneg w (bvurem w (bvneg w a) b)) (bvurem w a (bvneg w b)) (bvneg w (bvurem w (bvneg w a) (bvneg w b)))

abbrev pub bvule : ℕ → ℕ → ℕ
bvule a b = of_bool (leb a b)

abbrev pub bvugt : ℕ → ℕ → ℕ
bvugt a b = bvult b a

abbrev pub bvuge : ℕ → ℕ → ℕ
bvuge a b = bvule b a

abbrev pub bvslt : ℕ → ℕ → ℕ → ℕ
bvslt w a b = by_signs w a b (bvult a b) 1 0 (bvult a b)

abbrev pub bvsle : ℕ → ℕ → ℕ → ℕ
bvsle w a b = by_signs w a b (bvule a b) 1 0 (bvule a b)

abbrev pub bvsgt : ℕ → ℕ → ℕ → ℕ
bvsgt w a b = bvslt w b a

abbrev pub bvsge : ℕ → ℕ → ℕ → ℕ
bvsge w a b = bvsle w b a

abbrev pub bvashr : ℕ → ℕ → ℕ → ℕ
bvashr w a b = cond (negative w a) (bvnot w (bvlshr w (bvnot w a) b)) (bvlshr w a b)

-- zeros before a number of width w
abbrev pub zero-extend : ℕ → ℕ → ℕ
zero-extend w a = concat w 0 a

-- i copies of the top bit before a number of width w
abbrev pub sign-extend : ℕ → ℕ → ℕ → ℕ
sign-extend w i a = concat w (cond (negative w a) (2 ^ i - 1) 0) a

-- ((_ rotate_right i) a) turns by one i times: the lowest bit goes to the top
unfoldable pub rotate_right : ℕ → ℕ → ℕ → ℕ
rotate_right w zero a = a
rotate_right w (suc i) a = rotate_right w i (concat (w - 1) (a % 2) (a / 2))

unfoldable pub rotate_left : ℕ → ℕ → ℕ → ℕ
rotate_left w zero a = a
rotate_left w (suc i) a = rotate_left w i (concat 1 (a % 2 ^ (w - 1)) (msb w a))

-- ---- not in SMT-LIB: rotation by a row, whose number is taken modulo the width (01's convention)
abbrev pub bvrotr : ℕ → ℕ → ℕ → ℕ
bvrotr w a b = rotate_right w (b % w) a

abbrev pub bvrotl : ℕ → ℕ → ℕ → ℕ
bvrotl w a b = rotate_left w (b % w) a

-- ---- the core theory on one-bit rows
abbrev pub equal : ℕ → ℕ → ℕ
equal a b = of_bool (eqb a b)

abbrev pub distinct : ℕ → ℕ → ℕ
distinct a b = of_bool (cond (eqb a b) false true)

abbrev pub ite : ℕ → ℕ → ℕ → ℕ
ite c a b = cond (eqb c 1) a b
