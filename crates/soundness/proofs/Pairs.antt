-- The pairs of entries that need a root: each of them is in the list, and the list holds no others. Assumes nothing.
use Prim.Native.Nat.{ℕ, zero, suc, ◌+◌, ◌-◌, ◌<◌, ◌≤◌, zero-le, suc-le-suc}
use mathlib.Core.Path.{◌≡◌, refl, ◌∙◌, subst}
use mathlib.Core.Bool.{Bool, true, false, cond}
use mathlib.Core.Logic.{⊎_elim}
use mathlib.Core.List.{List, ◌∷◌, ◌++◌}
use native.Mathlib.Nat.{not-suc-le-zero, eq-or-lt_of_le, le_of_suc-le-suc}
use native.Mathlib.Omega.{arith}
use lib.ListN.{length, get_or, length-append, get_or-append}
use lib.Seq.{get_or-append-add}
use Rattle.lists.proofs.Choice.{lt-or-ge}
use Rattle.lowering.specs.Roots.{Pair, pair, pairs_with, pairs}

-- place q of a list holds the pair (k, l)
pub record At (ps : List Pair) (k l q : ℕ) : Type 0 where
  pub inside : q < length ps
  pub holds : get_or ps q (pair 0 0) ≡ pair k l

at_left : (ps qs : List Pair) (k l q : ℕ) → At ps k l q → At (ps ++ qs) k l q
at_left ps qs k l q a =
    record { inside = simp length-append (omega (arith, a.inside)); holds = get_or-append ps qs (pair 0 0) q a.inside ∙ a.holds }

at_right : (ps qs : List Pair) (k l q : ℕ) → At qs k l q → At (ps ++ qs) k l (length ps + q)
at_right ps qs k l q a =
    record { inside = simp length-append (omega (arith, a.inside)); holds = get_or-append-add ps qs q (pair 0 0) ∙ a.holds }

at_suc : (p : Pair) (ps : List Pair) (k l q : ℕ) → At ps k l q → At (p ∷ ps) k l (suc q)
at_suc p ps k l q a = record { inside = suc-le-suc a.inside; holds = a.holds }

module _ (needs : ℕ → ℕ → Bool) where
  with-has : (n k l b : ℕ) → l ≤ b → b < l + n → needs k b ≡ true → (q : ℕ) × At (pairs_with needs k l n) k b q
  unfolding pairs_with
  with-has zero k l b h u e = absurd (omega arith)
  with-has (suc n) k l b h u e =
      ⊎_elim here (λ lt. there (needs k l) (with-has n k (suc l) b lt (omega arith) e)) (eq-or-lt_of_le h)
    where
      more : List Pair
      more = pairs_with needs k (suc l) n

      here : l ≡ b → (q : ℕ) × At (cond (needs k l) (pair k l ∷ more) more) k b q
      here z = (0, rw (z, e) (record { inside = suc-le-suc zero-le; holds = refl }))

      there : (t : Bool) → (q : ℕ) × At more k b q → (q : ℕ) × At (cond t (pair k l ∷ more) more) k b q
      there true (q, a) = (suc q, at_suc _ _ k b q a)
      there false (q, a) = (q, a)

  -- a pair of two of n entries from k on, earlier before later, that needs a root
  pub pairs-has : (n k a b : ℕ) → k ≤ a → a < b → b < k + n → needs a b ≡ true → (q : ℕ) × At (pairs needs k n) a b q
  unfolding pairs
  pairs-has zero k a b h l u e = absurd (omega arith)
  pairs-has (suc n) k a b h l u e =
      ⊎_elim (λ z. here z (with-has n k (suc k) b (omega arith) (omega arith) (rw z e))) (λ lt. there (pairs-has n (suc k) a b lt l (omega arith) e))
      (eq-or-lt_of_le h)
    where
      row : List Pair
      row = pairs_with needs k (suc k) n

      more : List Pair
      more = pairs needs (suc k) n

      here : k ≡ a → (q : ℕ) × At row k b q → (q : ℕ) × At (row ++ more) a b q
      here z (q, at) = (q, subst (λ (c : ℕ). At (row ++ more) c b q) z (at_left row more k b q at))

      there : (q : ℕ) × At more a b q → (q : ℕ) × At (row ++ more) a b q
      there (q, at) = (length row + q, at_right row more a b q at)

  -- place q holds a pair (k, b) with l ≤ b < u that needs a root
  abbrev With : ℕ → ℕ → ℕ → List Pair → ℕ → Type 0
  With k l u ps q = (b : ℕ) × (l ≤ b) × (b < u) × (needs k b ≡ true) × At ps k b q

  with-only : (n k l q : ℕ) → q < length (pairs_with needs k l n) → With k l (l + n) (pairs_with needs k l n) q
  unfolding pairs_with
  with-only zero k l q h = absurd (not-suc-le-zero h)
  with-only (suc n) k l q h = go (needs k l) refl q h (with-only n k (suc l))
    where
      more : List Pair
      more = pairs_with needs k (suc l) n

      go : (t : Bool) → needs k l ≡ t → (p : ℕ) → p < length (cond t (pair k l ∷ more) more)
          → ((r : ℕ) → r < length more → With k (suc l) (suc l + n) more r) → With k l (l + suc n) (cond t (pair k l ∷ more) more) p
      go true e zero u r = (l, omega arith, omega arith, e, record { inside = suc-le-suc zero-le; holds = refl })
      go true e (suc p) u r =
          let (b, lb, ub, eb, at) = r p (le_of_suc-le-suc u) in
          (b, omega arith, omega arith, eb, at_suc _ _ k b p at)
      go false e p u r =
          let (b, lb, ub, eb, at) = r p u in
          (b, omega arith, omega arith, eb, at)

  -- place q holds a pair (a, b) with k ≤ a < b < u that needs a root
  abbrev pub Needed : ℕ → ℕ → List Pair → ℕ → Type 0
  Needed k u ps q = (a : ℕ) × (b : ℕ) × (k ≤ a) × (a < b) × (b < u) × (needs a b ≡ true) × At ps a b q

  pub pairs-only : (n k q : ℕ) → q < length (pairs needs k n) → Needed k (k + n) (pairs needs k n) q
  unfolding pairs
  pairs-only zero k q h = absurd (not-suc-le-zero h)
  pairs-only (suc n) k q h =
      ⊎_elim left (λ u. right u (pairs-only n (suc k) (q - length (pairs_with needs k (suc k) n)) (omega (arith, simp length-append at h))))
      (lt-or-ge q (length (pairs_with needs k (suc k) n)))
    where
      row : List Pair
      row = pairs_with needs k (suc k) n

      more : List Pair
      more = pairs needs (suc k) n

      left : q < length row → Needed k (k + suc n) (row ++ more) q
      left u =
          let (b, lb, ub, eb, at) = with-only n k (suc k) q u in
          (k, b, omega arith, omega arith, omega arith, eb, at_left row more k b q at)

      right : length row ≤ q → Needed (suc k) (suc k + n) more (q - length row) → Needed k (k + suc n) (row ++ more) q
      right u (a, b, la, lb, ub, eb, at) =
          let z : length row + (q - length row) ≡ q = omega arith in
          (a, b, omega arith, lb, omega arith, eb, subst (λ (p : ℕ). At (row ++ more) a b p) z (at_right row more a b (q - length row) at))
