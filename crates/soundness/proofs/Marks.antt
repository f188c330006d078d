-- Laws of marks in a list, and of a table whose entries mark free places. Assumes nothing.
use Prim.Native.Nat.{ℕ, zero, suc, ◌<◌, ◌≤◌}
use mathlib.Core.Path.{◌≡◌, refl, sym, ap, subst}
use mathlib.Core.Bool.{Bool, true, false}
use mathlib.Core.Logic.{◌⊎◌, inl, inr, ⊎_elim}
use mathlib.Core.List.{List}
use native.Mathlib.Nat.{eq-or-lt_of_le}
use native.Mathlib.Decide.{dec_lt}
use native.Mathlib.Omega.{arith}
use borrow.Author.Tests.{eqb-true, eqb-false}
use lib.Dec.{eqb}
use lib.ListN.{length, get_or, set}
use lib.Seq.{get_or-set_same, get_or-set_other}
use Rattle.lists.specs.Trace.{trace, marks}
use Rattle.lowering.proofs.Marks.{marks-length}

-- what holds of a place's number and, where the place is the changed one, of the new number, holds after the change
pub set_holds : (P : ℕ → Type 0) (l : List ℕ) (p v r : ℕ) → p < length l → P (get_or l r 0) → (p ≡ r → P v) → P (get_or (set l p v) r 0)
set_holds P l p v r h x f = go (eqb r p) refl
  where
    go : (b : Bool) → eqb r p ≡ b → P (get_or (set l p v) r 0)
    go true e = let q : r ≡ p = eqb-true r p e in rw (q, get_or-set_same l p v 0 h) (f (sym q))
    go false e = rw (get_or-set_other l p r v 0 (eqb-false r p e)) x

-- two numbers that are in no order are one
pub in-no-order : (a b : ℕ) → (a < b → ⊥) → (b < a → ⊥) → a ≡ b
in-no-order a b f g = go (dec_lt a b)
  where
    go : Dec (a < b) → a ≡ b
    go (yes h) = absurd (f h)
    go (no n) = ⊎_elim (λ (e : b ≡ a). sym e) (λ h. absurd (g h)) (eq-or-lt_of_le (omega arith))

-- marks at places inside the list
module _ (place number : ℕ → ℕ) (l : List ℕ) where
  pub mark-at : (n : ℕ) → place n < length l → get_or (marks place number l (suc n)) (place n) 0 ≡ number n
  unfolding trace
  mark-at n h = get_or-set_same (marks place number l n) (place n) (number n) 0 (rw (marks-length place number l n) h)

  -- what holds of a place's number after k marks and of each later mark's at that place, holds after n
  pub marks-hold : (P : ℕ → Type 0) (r k n : ℕ) → k ≤ n → ((j : ℕ) → j < n → place j < length l)
      → P (get_or (marks place number l k) r 0) → ((j : ℕ) → k ≤ j → j < n → place j ≡ r → P (number j)) → P (get_or (marks place number l n) r 0)
  unfolding trace
  marks-hold P r k zero h inside x f = let e : k ≡ 0 = omega arith in subst (λ (z : ℕ). P (get_or (marks place number l z) r 0)) e x
  marks-hold P r k (suc n) h inside x f =
      ⊎_elim (λ (e : k ≡ suc n). subst (λ (z : ℕ). P (get_or (marks place number l z) r 0)) e x)
      (λ u. set_holds P (marks place number l n) (place n) (number n) r (rw (marks-length place number l n) (inside n (omega arith)))
      (marks-hold P r k n (omega arith) (λ j v. inside j (omega arith)) x (λ j v w. f j v (omega arith))) (f n (omega arith) (omega arith)))
      (eq-or-lt_of_le h)

-- a table whose entry k gives its place, free before, the class c
module _ (place : ℕ → ℕ) (c N : ℕ) (l : List ℕ) (above : 0 < c) (inside : (k : ℕ) → k < N → place k < length l)
    (free : (k : ℕ) → k < N → get_or (marks place (λ k. c) l k) (place k) 0 ≡ 0) where
  -- a place that has a class before entry k is no later entry's
  taken-before : (r k j : ℕ) → k ≤ j → j < N → 0 < get_or (marks place (λ k. c) l k) r 0 → place j ≡ r → ⊥
  taken-before r k j h u x e =
      let z : 0 < get_or (marks place (λ k. c) l j) r 0 =
      marks-hold place (λ k. c) l (λ d. 0 < d) r k j h (λ i v. inside i (omega arith)) x (λ i v w q. above) in
      let f : get_or (marks place (λ k. c) l j) r 0 ≡ 0 = rw e at (free j u) in
      omega arith

  -- a place that has a class before the table is no entry's
  pub table-other : (r j : ℕ) → j < N → 0 < get_or l r 0 → place j ≡ r → ⊥
  unfolding trace
  table-other r j u x e = taken-before r 0 j (omega arith) u x e

  table-later : (k j : ℕ) → k < j → j < N → place j ≡ place k → ⊥
  table-later k j h u e = taken-before (place k) (suc k) j h u (rw (mark-at place (λ k. c) l k (inside k (omega arith))) above) e

  -- no two entries have one place
  pub table-once : (k j : ℕ) → k < N → j < N → place k ≡ place j → k ≡ j
  table-once k j h u e = in-no-order k j (λ v. table-later k j v u (sym e)) (λ v. table-later j k v h e)

  -- any numbers that the entries put at their places stand there after the table; elsewhere all stays
  module _ (number : ℕ → ℕ) (e : List ℕ) (size : length e ≡ length l) where
    in_size : (k : ℕ) → k < N → place k < length e
    in_size k h = rw size (inside k h)

    pub table_at : (k : ℕ) → k < N → get_or (marks place number e N) (place k) 0 ≡ number k
    table_at k h =
        marks-hold place number e (λ d. d ≡ number k) (place k) (suc k) N h in_size (mark-at place number e k (in_size k h))
        (λ j u v q. ap number (table-once j k v h q))

    pub table-stay : (r : ℕ) → 0 < get_or l r 0 → get_or (marks place number e N) r 0 ≡ get_or e r 0
    unfolding trace
    table-stay r x = marks-hold place number e (λ d. d ≡ get_or e r 0) r 0 N (omega arith) in_size refl (λ j u v q. absurd (table-other r j v x q))

    -- a place has what it had, or an entry's number
    pub table-from : (r : ℕ) → (get_or (marks place number e N) r 0 ≡ get_or e r 0) ⊎ ((k : ℕ) × (k < N) × (place k ≡ r))
    unfolding trace
    table-from r =
        marks-hold place number e (λ d. (d ≡ get_or e r 0) ⊎ ((k : ℕ) × (k < N) × (place k ≡ r))) r 0 N (omega arith) in_size (inl refl)
        (λ j u v q. inr (j, v, q))
