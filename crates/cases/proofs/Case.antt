-- Where a case's lists stand, step by step, and what the list at a place is. Assumes nothing.
use Prim.Native.Nat.{ℕ, suc, ◌+◌, ◌-◌, ◌<◌, ◌≤◌}
use mathlib.Core.Path.{◌≡◌, ◌∙◌, sym, ap}
use mathlib.Core.Bool.{false}
use mathlib.Core.List.{List, []}
use native.Mathlib.Omega.{arith}
use borrow.Author.Tests.{eq-eqb, ne_eqb}
use lib.Dec.{eqb}
use lib.ListN.{length, get_or, take, drop, length-take, length-drop, drop_of_length-le}
use lib.Seq.{take_all, take-nil}
use Rattle.answers.specs.declared.Words.{Words}
use Rattle.cases.specs.Case.{after, after_lists, list_at, answer_at, answer, has_shape}

-- One list more, and none left.
pub lists-more : (w : List ℕ) (at n k : ℕ) → k < n → after_lists w at (n - k) ≡ after_lists w (after w at) (n - (k + 1))
unfolding after_lists
lists-more w at n k h = let e : n - k ≡ suc (n - (k + 1)) = omega arith in rw e

pub lists-done : (w : List ℕ) (at n k : ℕ) → n ≤ k → after_lists w at (n - k) ≡ at
unfolding after_lists
lists-done w at n k h = let e : n - k ≡ 0 = omega arith in rw e

-- The list at a place past the end, one that is cut short, and a whole one.
pub list-past : (w : List ℕ) (at : ℕ) → length w ≤ at → [] ≡ list_at w at
unfolding list_at
list-past w at h = let k : length w ≤ at + 1 = omega arith in rw (drop_of_length-le w k, take-nil)

pub list-cut : (w : List ℕ) (at : ℕ) → length w - (at + 1) < get_or w at 0 → take (length w - (at + 1)) (drop (at + 1) w) ≡ list_at w at
unfolding list_at
list-cut w at h =
    let k : length (drop (at + 1) w) ≤ get_or w at 0 = rw length-drop (omega arith) in
    let n : length (drop (at + 1) w) ≤ length w - (at + 1) = rw length-drop (omega arith) in
    rw (take_all _ _ k, take_all _ _ n)

pub list-whole : (w : List ℕ) (at : ℕ) → take (at + 1 + get_or w at 0 - (at + 1)) (drop (at + 1) w) ≡ list_at w at
unfolding list_at
list-whole w at = let e : at + 1 + get_or w at 0 - (at + 1) ≡ get_or w at 0 = omega arith in rw e

-- A list is no longer than its case.
pub list_fits : (w : List ℕ) (at : ℕ) → length (list_at w at) ≤ length w
unfolding list_at
list_fits w at = simp (length-take, length-drop) (omega arith)

-- The answer by its parts.
module _ (w : List ℕ) (a : Words) (at : ℕ) (p : at ≡ answer_at w) where
  pub number_is : (x : ℕ) → x ≡ get_or w at 0 → a ≡ answer w → a.number ≡ x
  unfolding answer
  number_is x f e = ap (λ (b : Words). b.number) e ∙ sym (rw p at f)

  pub place_is : (x : ℕ) → x ≡ get_or w (at + 1) 0 → a ≡ answer w → a.place ≡ x
  unfolding answer
  place_is x f e = ap (λ (b : Words). b.place) e ∙ sym (rw p at f)

  pub detail-is : (x : ℕ) → x ≡ get_or w (at + 2) 0 → a ≡ answer w → a.detail ≡ x
  unfolding answer
  detail-is x f e = ap (λ (b : Words). b.detail) e ∙ sym (rw p at f)

  pub answer-is : a.number ≡ get_or w at 0 → a.place ≡ get_or w (at + 1) 0 → a.detail ≡ get_or w (at + 2) 0 → a ≡ answer w
  unfolding answer
  answer-is n k d = rw (← rw p at n, ← rw p at k, ← rw p at d)

-- The shape by its tests.
module _ (w : List ℕ) (lists lent x : ℕ) (e : x ≡ get_or w 1 0) where
  pub shape-lists : (x ≡ lists → ⊥) → false ≡ has_shape w lists lent
  unfolding has_shape
  shape-lists h = rw (ne_eqb (get_or w 1 0) lists (λ z. h (e ∙ z)))

  module _ (h : x ≡ lists) (at : ℕ) (p : at ≡ answer_at w) (y : ℕ) (f : y ≡ get_or w (at + 3) 0) where
    pub shape-lent : (y ≡ lent → ⊥) → false ≡ has_shape w lists lent
    unfolding has_shape
    shape-lent k = rw (eq-eqb (get_or w 1 0) lists (sym e ∙ h), ne_eqb (get_or w (answer_at w + 3) 0) lent (λ z. k (rw p at f ∙ z)))

    pub shape-rest : y ≡ lent → (z : ℕ) → z ≡ after_lists w (at + 4) lent → eqb z (length w) ≡ has_shape w lists lent
    unfolding has_shape
    shape-rest k z g = rw (eq-eqb (get_or w 1 0) lists (sym e ∙ h), eq-eqb (get_or w (answer_at w + 3) 0) lent (sym (rw p at f) ∙ k), rw p at g)
