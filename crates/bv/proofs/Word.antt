-- Powers of two in words, and the top bit. Assumes nothing.
use Prim.Native.Nat.{ℕ, zero, suc, ◌≤◌, ◌<◌, ◌+◌, ◌-◌, ◌*◌, ◌/◌, ◌%◌, ◌^◌}
use mathlib.Core.Path.{◌≡◌, refl, sym, ap, ◌∙◌}
use mathlib.Core.Bool.{not}
use native.Mathlib.Omega.{arith}
use native.Mathlib.Nat.{one-mul}
use lib.Dec.{eqb}
use lib.Pow.{shl_exact, shr_lt, mod-mod-pow}

-- a power of two below 2 ^ 64 survives the shift
pub one_shl : (w : ℕ) → w < 64 → (1 * 2 ^ w) % 2 ^ 64 ≡ 2 ^ w
one_shl w h = shl_exact 1 w 64 (omega arith) (omega arith) ∙ one-mul (2 ^ w)

-- the remainder by 2 ^ w may be taken after that by 2 ^ 64
pub mod-under : (n w : ℕ) → w ≤ 64 → n % 2 ^ 64 % 2 ^ w ≡ n % 2 ^ w
mod-under n w h =
    let e : (64 - w) + w ≡ 64 = omega arith in
    ap (λ (k : ℕ). n % 2 ^ k % 2 ^ w) (sym e) ∙ mod-mod-pow n (64 - w) w

-- a number of width w has a top bit of 0 or 1 and nothing above it
pub top_below : (w a : ℕ) → 0 < w → a < 2 ^ w → a / 2 ^ (w - 1) < 2
top_below w a h l =
    let e : w ≡ 1 + (w - 1) = omega arith in
    shr_lt 1 (w - 1) (rw e at l)

sign-test : (q : ℕ) → q < 2 → not (eqb q 0) ≡ eqb (q % 2) 1
sign-test zero h = refl
sign-test (suc zero) h = refl
sign-test (suc (suc q)) h = absurd (omega arith)

pub top-test : (w a : ℕ) → 0 < w → a < 2 ^ w → not (eqb (a / 2 ^ (w - 1)) 0) ≡ eqb (a / 2 ^ (w - 1) % 2) 1
top-test w a h l = sign-test (a / 2 ^ (w - 1)) (top_below w a h l)
