-- Differences modulo 2 ^ 64, taken again modulo 2 ^ w. Assumes nothing.
use Rattle.std.proofs.Common.{◌≡◌, ℕ, ◌+◌, ◌-◌, ◌%◌, ◌^◌, ◌<◌, ◌≤◌, sym, ◌∙◌, add_assoc, zero-add, arith}
use native.Mathlib.Nat.{mod-add-mod, add-mod-mod, add-mod_right}
use Rattle.bv.proofs.Word.{mod-under}
use Rattle.bv.specs.Bv.{bvsub, bvneg}

-- a number r with r + b equal to a modulo 2 ^ 64 is a less b
module _ (w r a b : ℕ) (h : w ≤ 64) (l : b < 2 ^ w) (e : (r + b) % 2 ^ 64 ≡ a) where
  difference : r % 2 ^ w ≡ (a + (2 ^ w - b)) % 2 ^ w
  difference =
      let s : b + (2 ^ w - b) ≡ 2 ^ w = omega arith in
      sym
      (rw (← e, ← mod-add-mod, mod-under (r + b) w h, mod-add-mod, add_assoc, s) (add-mod_right r (2 ^ w)))

  pub sub-law : r % 2 ^ w ≡ bvsub w a b
  sub-law = difference ∙ sym (add-mod-mod a (2 ^ w - b) (2 ^ w))

-- and from 0 it is the negative
pub neg-law : (w r b : ℕ) → w ≤ 64 → b < 2 ^ w → (r + b) % 2 ^ 64 ≡ 0 → r % 2 ^ w ≡ bvneg w b
neg-law w r b h l e = difference w r 0 b h l e ∙ rw (zero-add (2 ^ w - b))
