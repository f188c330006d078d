-- Laws of the walk along the roots of some pairs. Assumes nothing.
use Prim.Native.Nat.{ℕ, suc, ◌+◌, ◌-◌, ◌<◌, ◌≤◌}
use mathlib.Core.Path.{◌≡◌, refl, sym, ◌∙◌}
use mathlib.Core.Bool.{Bool, true, false}
use mathlib.Core.List.{List, [], ◌∷◌, ◌++◌}
use native.Mathlib.Nat.{add-zero, add-suc, suc-add}
use native.Mathlib.Numerals.{add-one}
use native.Mathlib.Omega.{arith}
use borrow.Author.Tests.{ltb-true}
use lib.Dec.{ltb, eqb-suc-suc, eqb-zero-suc}
use lib.ListN.{length, get_or}
use Rattle.std.specs.declared.result.Result.{Result}
use Rattle.std.specs.declared.result.Result.TheVariants.{Ok, Err}
use Rattle.lists.specs.First.{first}
use Rattle.lists.proofs.Tests.{all_true}
use Rattle.lowering.specs.Roots.{Pair, pair, pairs_with, pairs, root_at}
use Rattle.pairs.specs.Walk.{stood, walked}

-- a walk behind a walk
abbrev pub behind : (ℕ → Result ℕ ℕ) → Result ℕ ℕ → Result ℕ ℕ
behind walk (Ok next) = walk next
behind walk (Err at) = Err at

module _ (troots : List ℕ) (test : ℕ → Pair → Bool) where
  -- no pair is left
  pub walk_end : (from : ℕ) → walked troots test from [] ≡ stood true from
  unfolding walked first
  walk_end from = rw (add-zero from)

  -- the first pair has its root, or not
  pub walk-stop : (from : ℕ) (p : Pair) (ps : List Pair) → root_at troots test from p ≡ false → walked troots test from (p ∷ ps) ≡ stood false from
  unfolding walked first
  walk-stop from p ps e = rw (add-zero from, e, eqb-zero-suc, add-zero from)

  pub walk-on : (from : ℕ) (p : Pair) (ps : List Pair) → root_at troots test from p ≡ true
      → walked troots test from (p ∷ ps) ≡ walked troots test (from + 1) ps
  unfolding walked first
  walk-on from p ps e = simp (add-suc, add-one, suc-add, add-zero, e, eqb-suc-suc)

  -- the pairs of two lists, one after the other
  pub walk-both : (ps qs : List Pair) (from : ℕ)
      → walked troots test from (ps ++ qs) ≡ behind (λ next. walked troots test next qs) (walked troots test from ps)
  walk-both [] qs from = rw (walk_end from)
  walk-both (p ∷ ps) qs from = go (root_at troots test from p) refl (walk-both ps qs (from + 1))
    where
      go : (b : Bool) → root_at troots test from p ≡ b
          → walked troots test (from + 1) (ps ++ qs) ≡ behind (λ next. walked troots test next qs) (walked troots test (from + 1) ps)
          → walked troots test from (p ∷ (ps ++ qs)) ≡ behind (λ next. walked troots test next qs) (walked troots test from (p ∷ ps))
      go true e more = rw (walk-on from p (ps ++ qs) e, walk-on from p ps e) more
      go false e more = rw (walk-stop from p (ps ++ qs) e, walk-stop from p ps e)

  -- a root that stands lies in the list
  pub root-inside : (q : ℕ) (p : Pair) → root_at troots test q p ≡ true → q < length troots
  unfolding root_at
  root-inside q p e = ltb-true _ _ (all_true (ltb q (length troots) ∷ test (get_or troots q 0) p ∷ []) e).0

-- what a loop over the pairs of entry k keeps: those with entries from l on give what all give
pub record RowKept (troots : List ℕ) (test : ℕ → Pair → Bool) (needs : ℕ → ℕ → Bool) (n k from idx l : ℕ) : Type 0 where
  pub kept : walked troots test from (pairs_with needs k (k + 1) (n - (k + 1))) ≡ walked troots test idx (pairs_with needs k l (n - l))

module _ {troots : List ℕ} {test : ℕ → Pair → Bool} {needs : ℕ → ℕ → Bool} {n k from idx l : ℕ} (a : RowKept troots test needs n k from idx l) where
  pub row-end : n ≤ l → stood true idx ≡ walked troots test from (pairs_with needs k (k + 1) (n - (k + 1)))
  unfolding pairs_with
  row-end h = let z : n - l ≡ 0 = omega arith in sym (a.kept ∙ rw z (walk_end troots test idx))

  module _ (h : l < n) where
    pub row-skip : needs k l ≡ false → RowKept troots test needs n k from idx (l + 1)
    unfolding pairs_with
    row-skip e = let z : n - l ≡ suc (n - (l + 1)) = omega arith in record { kept = a.kept ∙ rw (z, e, add-one l) }

    module _ (e : needs k l ≡ true) where
      pub row_on : root_at troots test idx (pair k l) ≡ true → RowKept troots test needs n k from (idx + 1) (l + 1)
      unfolding pairs_with
      row_on r = let z : n - l ≡ suc (n - (l + 1)) = omega arith in record { kept = a.kept ∙ rw (z, e, add-one l) (walk-on troots test idx _ _ r) }

      pub row-stop : root_at troots test idx (pair k l) ≡ false → stood false idx ≡ walked troots test from (pairs_with needs k (k + 1) (n - (k + 1)))
      unfolding pairs_with
      row-stop r = let z : n - l ≡ suc (n - (l + 1)) = omega arith in sym (a.kept ∙ rw (z, e) (walk-stop troots test idx _ _ r))

-- what a loop over all pairs keeps: those of entries from k on give what all give
pub record TableKept (troots : List ℕ) (test : ℕ → Pair → Bool) (needs : ℕ → ℕ → Bool) (n from idx k : ℕ) : Type 0 where
  pub kept : walked troots test from (pairs needs 0 n) ≡ walked troots test idx (pairs needs k (n - k))

module _ {troots : List ℕ} {test : ℕ → Pair → Bool} {needs : ℕ → ℕ → Bool} {n from idx k : ℕ} (a : TableKept troots test needs n from idx k) where
  pub table-end : n ≤ k → stood true idx ≡ walked troots test from (pairs needs 0 n)
  unfolding pairs
  table-end h = let z : n - k ≡ 0 = omega arith in sym (a.kept ∙ rw z (walk_end troots test idx))

  -- the pairs of k, then the others
  module _ (h : k < n) (r : Result ℕ ℕ) (row : r ≡ walked troots test idx (pairs_with needs k (k + 1) (n - (k + 1)))) where
    table-both : walked troots test from (pairs needs 0 n) ≡ behind (λ next. walked troots test next (pairs needs (k + 1) (n - (k + 1)))) r
    unfolding pairs
    table-both =
        let z : n - k ≡ suc (n - (k + 1)) = omega arith in
        a.kept ∙ rw (z, row, add-one k) (walk-both troots test (pairs_with needs k (suc k) (n - suc k)) _ idx)

    pub table_on : (next : ℕ) → r ≡ Ok next → TableKept troots test needs n from next (k + 1)
    table_on next e = record { kept = table-both ∙ rw e }

    pub table-stop : (at : ℕ) → r ≡ Err at → Err at ≡ walked troots test from (pairs needs 0 n)
    table-stop at e = sym (table-both ∙ rw e)
