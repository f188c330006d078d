-- Bounds that several families of operators share, at every width. Assumes nothing.
use Prim.Native.Nat.{ℕ, suc, ◌<◌, ◌-◌, ◌*◌, ◌^◌}
use mathlib.Core.Path.{◌≡◌, ap, ◌∙◌}
use mathlib.Core.Bool.{Bool, true, false, cond}
use native.Mathlib.Omega.{arith}
use native.Mathlib.Nat.{mod-lt, pow-suc}
use lib.Pow.{pow_pos}
use Rattle.bv.specs.Bv.{nat2bv, bvneg}

-- what is taken modulo 2 ^ w fits
pub nat2bv-fits : (w x : ℕ) → nat2bv w x < 2 ^ w
nat2bv-fits w x = mod-lt x (pow_pos w)

pub neg-fits : (w a : ℕ) → bvneg w a < 2 ^ w
neg-fits w a = nat2bv-fits w (2 ^ w - a)

-- a choice is below a bound if both sides are
pub either_lt : (t : Bool) (x y m : ℕ) → x < m → y < m → cond t x y < m
either_lt true x y m h k = h
either_lt false x y m h k = k

-- the power of a width is twice that of its top bit
pub double : (w : ℕ) → 0 < w → 2 ^ w ≡ 2 ^ (w - 1) * 2
double w h = let e : w ≡ suc (w - 1) = omega arith in ap (λ (k : ℕ). 2 ^ k) e ∙ pow-suc 2 (w - 1)
