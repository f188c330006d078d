-- Every comparison is a number of width 1, and a choice has the width of its arms, at every width. Assumes nothing.
use Prim.Native.Nat.{ℕ, ◌<◌, ◌^◌}
use mathlib.Core.Bool.{Bool, true, false, cond}
use native.Mathlib.Omega.{arith}
use lib.Dec.{eqb, ltb, leb}
use Rattle.bv.proofs.Fits.{either_lt}
use Rattle.bv.specs.Bits.{of_bool}
use Rattle.bv.specs.Bv.{bvult, bvule, bvugt, bvuge, bvslt, bvsle, bvsgt, bvsge, equal, distinct, ite, negative, by_signs}

-- ---- a choice of two numbers of width w
pub ite-fits : (w c a b : ℕ) → a < 2 ^ w → b < 2 ^ w → ite c a b < 2 ^ w
ite-fits w c a b h l = either_lt (eqb c 1) a b (2 ^ w) h l

-- ---- comparisons have width 1
pub of_bool-fits : (t : Bool) → of_bool t < 2 ^ 1
of_bool-fits true = omega arith
of_bool-fits false = omega arith

pub equal-fits : (a b : ℕ) → equal a b < 2 ^ 1
equal-fits a b = of_bool-fits (eqb a b)

pub distinct-fits : (a b : ℕ) → distinct a b < 2 ^ 1
distinct-fits a b = of_bool-fits (cond (eqb a b) false true)

pub ult-fits : (a b : ℕ) → bvult a b < 2 ^ 1
ult-fits a b = of_bool-fits (ltb a b)

pub ule-fits : (a b : ℕ) → bvule a b < 2 ^ 1
ule-fits a b = of_bool-fits (leb a b)

pub ugt-fits : (a b : ℕ) → bvugt a b < 2 ^ 1
ugt-fits a b = ult-fits b a

pub uge-fits : (a b : ℕ) → bvuge a b < 2 ^ 1
uge-fits a b = ule-fits b a

-- a signed comparison is 1, 0 or the unsigned one
signs-fits : (w a b same : ℕ) → same < 2 ^ 1 → by_signs w a b same 1 0 same < 2 ^ 1
signs-fits w a b same h =
    either_lt (negative w a) _ _ (2 ^ 1)
    (either_lt (negative w b) same 1 (2 ^ 1) h (of_bool-fits true))
    (either_lt (negative w b) 0 same (2 ^ 1) (of_bool-fits false) h)

pub slt-fits : (w a b : ℕ) → bvslt w a b < 2 ^ 1
slt-fits w a b = signs-fits w a b (bvult a b) (ult-fits a b)

pub sle-fits : (w a b : ℕ) → bvsle w a b < 2 ^ 1
sle-fits w a b = signs-fits w a b (bvule a b) (ule-fits a b)

pub sgt-fits : (w a b : ℕ) → bvsgt w a b < 2 ^ 1
sgt-fits w a b = slt-fits w b a

pub sge-fits : (w a b : ℕ) → bvsge w a b < 2 ^ 1
sge-fits w a b = sle-fits w b a
