-- Worked values of the definitions: 01's marked case 12, and values of the theory. Assumes nothing.
use mathlib.Core.Path.{◌≡◌, refl}
use Rattle.bv.specs.Bits.{of_bits}
use Rattle.bv.specs.Bv.{bvnot, bvand, bvor, bvxor, bvneg, bvadd, bvsub, bvmul, bvudiv, bvurem, bvsdiv, bvsrem, bvshl, bvlshr, bvashr, bvrotr}
use Rattle.bv.specs.Bv.{bvrotl, concat, extract, sign-extend, bvslt, bvult, rotate_right, rotate_left}

case-12-sdiv-least : bvsdiv 8 128 255 ≡ 128
case-12-sdiv-least = refl

case-12-sdiv-negative : bvsdiv 8 200 0 ≡ 1
case-12-sdiv-negative = refl

case-12-sdiv-zero : bvsdiv 8 5 0 ≡ 255
case-12-sdiv-zero = refl

case-12-srem : bvsrem 8 249 2 ≡ 255
case-12-srem = refl

case-12-rotr : bvrotr 8 1 9 ≡ 128
unfolding rotate_right
case-12-rotr = refl

bits-and-or-xor-not : (bvand 4 12 10 ≡ 8) × (bvor 4 12 10 ≡ 14) × (bvxor 4 12 10 ≡ 6) × (bvnot 4 12 ≡ 3)
unfolding of_bits
bits-and-or-xor-not = (refl, refl, refl, refl)

sums : (bvadd 8 200 100 ≡ 44) × (bvsub 8 5 6 ≡ 255) × (bvneg 8 1 ≡ 255) × (bvmul 8 20 13 ≡ 4)
sums = (refl, refl, refl, refl)

divisions : (bvudiv 8 7 2 ≡ 3) × (bvudiv 8 7 0 ≡ 255) × (bvurem 8 7 0 ≡ 7) × (bvsdiv 8 249 2 ≡ 253)
divisions = (refl, refl, refl, refl)

shifts : (bvshl 8 129 1 ≡ 2) × (bvshl 8 1 8 ≡ 0) × (bvlshr 8 129 1 ≡ 64) × (bvashr 8 129 1 ≡ 192) × (bvashr 8 129 200 ≡ 255)
unfolding of_bits
shifts = (refl, refl, refl, refl, refl)

turns : (bvrotl 8 129 1 ≡ 3) × (bvrotr 8 129 1 ≡ 192) × (bvrotl 8 129 0 ≡ 129)
unfolding rotate_left rotate_right
turns = (refl, refl, refl)

parts : (concat 4 3 5 ≡ 53) × (extract 5 2 53 ≡ 13) × (sign-extend 4 4 9 ≡ 249) × (sign-extend 4 4 5 ≡ 5)
parts = (refl, refl, refl, refl)

orders : (bvult 1 255 ≡ 1) × (bvslt 8 1 255 ≡ 0) × (bvslt 8 255 1 ≡ 1)
orders = (refl, refl, refl)

at-64 : (bvadd 64 18446744073709551615 1 ≡ 0) × (bvsdiv 64 9223372036854775808 18446744073709551615 ≡ 9223372036854775808)
at-64 = (refl, refl)
