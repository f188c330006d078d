-- A search along a table of w words an entry, which entry k ends. Assumes nothing.
use Prim.Native.Nat.{ℕ, ◌+◌, ◌*◌, ◌<◌, ◌≤◌, zero-le}
use mathlib.Core.Path.{◌≡◌, sym, ap, subst, ◌∙◌}
use mathlib.Core.Bool.{Bool, true, false, not}
use native.Mathlib.Decide.{dec_lt}
use native.Mathlib.Nat.{not-suc-le-zero, zero-mul, suc-mul, mul-le-mul_right, mul-lt-mul_of_pos_right}
use native.Mathlib.Numerals.{add-one}
use native.Mathlib.Omega.{arith}
use borrow.Author.Count.{below_more}
use borrow.Author.Tests.{lt-ltb, le-ltb}
use lib.Dec.{ltb}
use Rattle.lists.specs.First.{none}
use Rattle.lists.proofs.First.{none-yes, none-no}

-- the offset of entry i, and entry k
module _ (w i off : ℕ) (at : off ≡ i * w) where
  pub offset-next : off + w ≡ (i + 1) * w
  offset-next = rw (at, add-one i, suc-mul i w)

  offset-whole : (k : ℕ) → i < k → off + w ≤ k * w
  offset-whole k h = rw (at, sym (suc-mul i w)) (mul-le-mul_right w h)

  offset-lt : (k : ℕ) → 0 < w → i < k → off < k * w
  offset-lt k pos h = rw at (mul-lt-mul_of_pos_right h pos)

  offset-ge : (k : ℕ) → k ≤ i → k * w ≤ off
  offset-ge k h = rw at (mul-le-mul_right w h)

module _ (Missed : ℕ → Type 0) (w k : ℕ) where
  -- the offset is an entry's, and each entry before it is missed
  abbrev pub Searched : ℕ → Type 0
  Searched off = (i : ℕ) × (off ≡ i * w) × (i ≤ k) × ((l : ℕ) → l < i → Missed l)

  pub searched-none : Searched 0
  searched-none = (0, sym (zero-mul w), zero-le, λ l h. absurd (not-suc-le-zero h))

  module _ (own : Missed k → ⊥) (off : ℕ) (s : Searched off) where
    -- past another key
    before-end : Missed s.0 → s.0 < k
    before-end e = go (dec_lt s.0 k)
      where
        go : Dec (s.0 < k) → s.0 < k
        go (yes l) = l
        go (no l) = let z : s.0 ≡ k = omega (arith, s.2) in absurd (own (subst Missed z e))

    pub goes_on : Missed s.0 → off + w ≤ k * w
    goes_on e = offset-whole w s.0 off s.1 k (before-end e)

    pub searched-more : Missed s.0 → Searched (off + w)
    searched-more e =
        let h = before-end e in
        (s.0 + 1, offset-next w s.0 off s.1, omega arith, below_more _ _ s.3 e)

  -- before the end it has found an entry, at the end none
  pub found : (off : ℕ) (s : Searched off) (p : ℕ → Bool) → ((l : ℕ) → l ≤ k → Missed l → p l ≡ false) → 0 < w → p s.0 ≡ true
      → ltb off (k * w) ≡ not (none p k)
  found off s p says pos e = go (dec_lt s.0 k)
    where
      missed : (l : ℕ) → l < s.0 → p l ≡ false
      missed l h = says l (omega (arith, s.2)) (s.3 l h)

      go : Dec (s.0 < k) → ltb off (k * w) ≡ not (none p k)
      go (yes l) = lt-ltb off (k * w) (offset-lt w s.0 off s.1 k pos l) ∙ sym (ap not (none-no p k s.0 l e missed))
      go (no l) =
          let h : k ≤ s.0 = omega arith in
          le-ltb off (k * w) (offset-ge w s.0 off s.1 k h) ∙ sym (ap not (none-yes p k (λ j m. missed j (omega arith))))
