-- Every answer of the division operators is below 2 ^ w, at every width. Assumes nothing.
use Prim.Native.Nat.{ℕ, ◌<◌, ◌^◌}
use mathlib.Core.Bool.{Bool, cond}
use native.Mathlib.Omega.{arith}
use native.Mathlib.Nat.{mod-le, div-le_self}
use lib.Dec.{eqb}
use lib.Pow.{ones_lt}
use Rattle.bv.proofs.Fits.{neg-fits, either_lt}
use Rattle.bv.specs.Bv.{bvneg, bvudiv, bvurem, bvsdiv, bvsrem, negative}

pub udiv-fits : (w a b : ℕ) → a < 2 ^ w → bvudiv w a b < 2 ^ w
udiv-fits w a b h = either_lt (eqb b 0) _ _ _ (ones_lt w) (omega (arith, div-le_self a b))

pub urem-fits : (w a b : ℕ) → a < 2 ^ w → bvurem w a b < 2 ^ w
urem-fits w a b h = either_lt (eqb b 0) _ _ _ h (omega (arith, mod-le a b))

-- a choice by signs: neither negative, the first, the second, both
abbrev pub choose : Bool → Bool → ℕ → ℕ → ℕ → ℕ → ℕ
choose s t pp np pn nn = cond s (cond t nn np) (cond t pn pp)

four-lt : (s t : Bool) (pp np pn nn m : ℕ) → pp < m → np < m → pn < m → nn < m → choose s t pp np pn nn < m
four-lt s t pp np pn nn m h k i j = either_lt s _ _ m (either_lt t nn np m j k) (either_lt t pn pp m i h)

pub sdiv-fits : (w a b : ℕ) → a < 2 ^ w → bvsdiv w a b < 2 ^ w
sdiv-fits w a b h =
    four-lt (negative w a) (negative w b) _ _ _ _ _ (udiv-fits w a b h) (neg-fits w _) (neg-fits w _)
    (udiv-fits w (bvneg w a) (bvneg w b) (neg-fits w a))

pub srem-fits : (w a b : ℕ) → a < 2 ^ w → bvsrem w a b < 2 ^ w
srem-fits w a b h =
    four-lt (negative w a) (negative w b) _ _ _ _ _ (urem-fits w a b h) (neg-fits w _) (urem-fits w a (bvneg w b) h) (neg-fits w _)
