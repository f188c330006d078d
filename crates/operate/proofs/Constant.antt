-- The bits of a constant from the highest down: one more bit below doubles what is read. Assumes nothing.
use Prim.Native.Nat.{ℕ, suc, ◌<◌, ◌≤◌, ◌+◌, ◌-◌, ◌*◌, ◌^◌}
use mathlib.Core.Path.{◌≡◌, sym, ap}
use mathlib.Core.List.{List}
use native.Mathlib.Omega.{arith}
use native.Mathlib.Nat.{lt_of_lt_of_le}
use lib.ListN.{get_or}
use lib.Pow.{pow_mono}
use Rattle.bv.specs.Bits.{of_bits}
use Rattle.bitwise.proofs.Digits.{of_bits-cong, of_bits_fits}
use Rattle.value.specs.Operate.{const_number}

-- the number of n bits from s on: its lowest bit and the rest
pub const-more : (l : List ℕ) (s n : ℕ) → const_number l s (suc n) ≡ 2 * const_number l (suc s) n + get_or l s 0
unfolding of_bits
const-more l s n =
    let e : of_bits n (λ k. get_or l (s + suc k) 0) ≡ const_number l (suc s) n =
    of_bits-cong n (λ k. get_or l (s + suc k) 0) (λ k. get_or l (suc s + k) 0) (λ k h. ap (λ (x : ℕ). get_or l x 0) (omega arith)) in
    let z : get_or l (s + 0) 0 ≡ get_or l s 0 = ap (λ (x : ℕ). get_or l x 0) (omega arith) in
    omega arith

-- of the w bits from s on, those from k on and those from k - 1 on
pub const_step : (l : List ℕ) (s w k : ℕ) → 0 < k → k ≤ w
    → const_number l (s + (k - 1)) (w - (k - 1)) ≡ 2 * const_number l (s + k) (w - k) + get_or l (s + (k - 1)) 0
const_step l s w k p h =
    let e : w - (k - 1) ≡ suc (w - k) = omega arith in
    let d : s + k ≡ suc (s + (k - 1)) = omega arith in
    rw (e, d) (const-more l (s + (k - 1)) (w - k))

-- room for the doubled number and the next bit
pub const-room : (l : List ℕ) (s w k : ℕ) → 0 < k → k ≤ w → w ≤ 64 → ((j : ℕ) → get_or l j 0 < 2)
    → 2 * const_number l (s + k) (w - k) + get_or l (s + (k - 1)) 0 < 2 ^ 64
const-room l s w k p h n b =
    let f = of_bits_fits (w - (k - 1)) (λ j. get_or l (s + (k - 1) + j) 0) (λ j. b (s + (k - 1) + j)) in
    let m : w - (k - 1) ≤ 64 = omega arith in
    rw (sym (const_step l s w k p h)) (lt_of_lt_of_le f (pow_mono m))

-- before the first bit and past the last
pub const-none : (l : List ℕ) (s w : ℕ) → 0 ≡ const_number l s (w - w)
unfolding of_bits
const-none l s w =
    let e : w - w ≡ 0 = omega arith in
    rw e

pub const-all : (l : List ℕ) (s w k : ℕ) → k ≡ 0 → const_number l (s + k) (w - k) ≡ const_number l s w
const-all l s w k z =
    let e : s + k ≡ s = omega arith in
    let d : w - k ≡ w = omega arith in
    rw (e, d)
