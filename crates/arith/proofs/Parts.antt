-- Sign extension by a difference of ones, at every width. Assumes nothing.
use Rattle.std.proofs.Common.{◌≡◌, ℕ, ◌+◌, ◌-◌, ◌*◌, ◌^◌, ◌≤◌, true, false, ◌∙◌, add_comm, arith, pow_pos, pow_mono}
use lib.Pow.{high_ones}
use Rattle.bv.specs.Bv.{negative, sign-extend}

pub ones-grow : (w n : ℕ) → 2 ^ w - 1 ≤ 2 ^ (w + n) - 1
ones-grow w n =
    let q : 2 ^ w ≤ 2 ^ (w + n) = pow_mono (omega arith) in
    omega arith

-- the ones of width w + n less those of width w
ones_above : (w n : ℕ) → (2 ^ (w + n) - 1) - (2 ^ w - 1) ≡ (2 ^ n - 1) * 2 ^ w
ones_above w n =
    let p = pow_pos w in
    let e : (2 ^ (w + n) - 1) - (2 ^ w - 1) ≡ 2 ^ (w + n) - 2 ^ w = omega arith in
    e ∙ rw (add_comm w n) (high_ones n w)

pub sign-ones : (w n a : ℕ) → negative w a ≡ true → (2 ^ (w + n) - 1) - (2 ^ w - 1) + a ≡ sign-extend w n a
sign-ones w n a t = rw (t, ones_above w n)

pub sign-zeros : (w n a : ℕ) → negative w a ≡ false → a ≡ sign-extend w n a
sign-zeros w n a t = rw t (omega arith)
