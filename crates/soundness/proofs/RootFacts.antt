-- What an accepted Check says of the roots: images first, then the congruence roots of the pairs, and nothing else. Assumes nothing.
use Prim.Native.Nat.{ℕ, ◌+◌, ◌-◌, ◌<◌, ◌≤◌}
use mathlib.Core.Path.{◌≡◌, refl, sym, ap, ◌∙◌, subst}
use mathlib.Core.Bool.{Bool, true, false, cond, not}
use mathlib.Core.Logic.{◌⊎◌, inl, inr, ⊎_elim}
use mathlib.Core.List.{List, [], ◌∷◌}
use native.Mathlib.Omega.{arith}
use borrow.Author.Tests.{eqb-true, eqb-false, ltb-true, eq-eqb, ne_eqb, not-true}
use lib.Dec.{eqb, ltb}
use lib.ListN.{length, get_or, get_or-eq_default}
use Rattle.answers.specs.Answer.{Answer}
use Rattle.answers.specs.Answer.{Accepted, MapOutOfRange}
use Rattle.answers.specs.Answer.{is_accepted}
use Rattle.lists.specs.Tests.{all}
use Rattle.lists.proofs.Choice.{no_way, lt-or-ge}
use Rattle.lists.proofs.Tests.{all_true}
use Rattle.rows.specs.declared.Graph.TheVariants.{Target}
use Rattle.rows.specs.Row.{MAX, row_at}
use Rattle.lowering.specs.Images.{unequal_const}
use Rattle.lowering.specs.Tables.{read_count, read_array, read_index, call_count}
use Rattle.lowering.specs.Matching.{row_answer}
use Rattle.lowering.specs.Roots.{Pair, pair, pairs, leads, reads_need, root_at, read_root, call_root}
use Rattle.lowering.specs.Lowering.{Lowering, source_rows, target_rows}
use Rattle.lowering.specs.Check.{call_roots}
use Rattle.soundness.proofs.Facts.{m, Mapped, one_function, ReadCong, CallCong, ReadPair, CallPair, root_of}
use Rattle.soundness.proofs.Pairs.{At, Needed, pairs-has, pairs-only}
use Rattle.soundness.specs.Passed.{Passed}

-- the roots of a list of pairs stand from a place on
module _ (troots : List ℕ) (test : ℕ → Pair → Bool) (needs : ℕ → ℕ → Bool) (from n : ℕ)
    (stand : (q : ℕ) → q < length (pairs needs 0 n) → root_at troots test (from + q) (get_or (pairs needs 0 n) q (pair 0 0)) ≡ true) where
  -- place q of the roots is the root of entries k and l
  abbrev Stands : ℕ → ℕ → ℕ → Type 0
  Stands k l q = test (get_or troots q 0) (pair k l) ≡ true

  stands : (k l q : ℕ) → At (pairs needs 0 n) k l q → (from + q < length troots) × Stands k l (from + q)
  unfolding root_at
  stands k l q at =
      let (a, (b, _)) =
      all_true (ltb (from + q) (length troots) ∷ test (get_or troots (from + q) 0) (get_or (pairs needs 0 n) q (pair 0 0)) ∷ [])
      (stand q at.inside) in
      (ltb-true _ _ a, ap (test (get_or troots (from + q) 0)) (sym at.holds) ∙ b)

  -- two entries that need a root have one
  pub has-root : (k l : ℕ) → k < l → l < n → needs k l ≡ true → (q : ℕ) × (q < length troots) × Stands k l q
  has-root k l h u e = go (pairs-has needs n 0 k l (omega arith) h (omega arith) e)
    where
      go : (q : ℕ) × At (pairs needs 0 n) k l q → (q : ℕ) × (q < length troots) × Stands k l q
      go (q, at) = let (a, b) = stands k l q at in (from + q, a, b)

  -- each root from there on is that of two entries that need it
  pub is-root : (q : ℕ) → from ≤ q → q < from + length (pairs needs 0 n)
      → (k : ℕ) × (l : ℕ) × (k < n) × (l < n) × (needs k l ≡ true) × Stands k l q
  is-root q h u = go (pairs-only needs n 0 (q - from) (omega arith))
    where
      go : Needed needs 0 (0 + n) (pairs needs 0 n) (q - from) → (k : ℕ) × (l : ℕ) × (k < n) × (l < n) × (needs k l ≡ true) × Stands k l q
      go (k, l, _, kl, ln, e, at) =
          let z : from + (q - from) ≡ q = omega arith in
          (k, l, omega arith, omega arith, e, subst (Stands k l) z (stands k l (q - from) at).1)

module _ (L : Lowering) where
  -- entries of one array need a root or have unequal constant indices; entries that need a root are of one array
  abbrev pub unequal : ℕ → ℕ → Bool
  unequal k l =
      unequal_const L.target.bits (row_at Target L.target.rows (read_index L.reads k))
      (row_at Target L.target.rows (read_index L.reads l))

  reads-need : (k l : ℕ) → read_array L.reads k ≡ read_array L.reads l
      → (unequal k l ≡ true) ⊎ (reads_need L.reads L.target.rows L.target.bits k l ≡ true)
  unfolding reads_need all
  reads-need k l e = rw (eq-eqb (read_array L.reads k) (read_array L.reads l) e) (go (unequal k l))
    where
      go : (b : Bool) → (b ≡ true) ⊎ (cond (not b) true false ≡ true)
      go true = inl refl
      go false = inr refl

  one-array : (k l : ℕ) → reads_need L.reads L.target.rows L.target.bits k l ≡ true → read_array L.reads k ≡ read_array L.reads l
  unfolding reads_need
  one-array k l e = eqb-true _ _ (all_true (eqb (read_array L.reads k) (read_array L.reads l) ∷ not (unequal k l) ∷ []) e).0

-- the answer of a row that is not skipped is no refusal: its image is in range
in-range : (skipped inside : Bool) (a : Answer) (i : ℕ) → is_accepted (cond skipped Accepted (cond inside a (MapOutOfRange i))) ≡ true
    → skipped ≡ false → inside ≡ true
in-range true inside a i e s = no_way s
in-range false true a i e s = refl
in-range false false a i e s = no_way (sym e)

module _ (L : Lowering) (P : Passed L) where
  -- a row that is not skipped has its image in the target
  pub within : (i : ℕ) → i < source_rows L → (m L i ≡ MAX → ⊥) → m L i < target_rows L
  unfolding row_answer
  within i h n = ltb-true _ _ (in-range (eqb (m L i) MAX) (ltb (m L i) (target_rows L)) _ i (P.reached.rows i h) (ne_eqb (m L i) MAX n))

  -- past the map, which is as long as the source, every row is skipped
  mapped : (i : ℕ) → (m L i ≡ MAX → ⊥) → Mapped L i
  mapped i n = ⊎_elim inside (λ l. absurd (n (get_or-eq_default L.map MAX l))) (lt-or-ge i (length L.map))
    where
      inside : i < length L.map → Mapped L i
      inside l = let h : i < source_rows L = omega (arith, P.map-length) in (h, within i h n)

  pub of-root : (q : ℕ) → q < length L.eroots
      → Mapped L (get_or L.eroots q 0) × (q < length L.troots) × (root_of L q ≡ m L (get_or L.eroots q 0))
  unfolding leads
  of-root q h =
      let i = get_or L.eroots q 0 in
      let (a, (b, (c, _))) = all_true (not (eqb (m L i) MAX) ∷ ltb q (length L.troots) ∷ eqb (root_of L q) (m L i) ∷ []) (P.leading q h) in
      (mapped i (eqb-false _ _ (not-true _ a)), ltb-true _ _ b, eqb-true _ _ c)

  pub cong-read : (k l : ℕ) → k < l → l < read_count L.reads → read_array L.reads k ≡ read_array L.reads l
      → (unequal L k l ≡ true) ⊎ ((q : ℕ) × (q < length L.troots) × ReadCong L k l (root_of L q))
  cong-read k l h u e =
      ⊎_elim inl
      (λ p. inr (has-root L.troots (read_root L.reads L.target.rows) (reads_need L.reads L.target.rows L.target.bits)
      (length L.eroots) (read_count L.reads) P.read-roots k l h u p))
      (reads-need L k l e)

  pub cong-call : (k l : ℕ) → k < l → l < call_count L.calls → one_function L k l ≡ true
      → (q : ℕ) × (q < length L.troots) × CallCong L k l (root_of L q)
  cong-call =
      has-root L.troots (call_root L.calls L.cargs L.target.rows) (one_function L) (call_roots L) (call_count L.calls) P.call-roots

  pub only : (q : ℕ) → q < length L.troots → (q < length L.eroots) ⊎ (ReadPair L (root_of L q) ⊎ CallPair L (root_of L q))
  only q h =
      ⊎_elim inl (λ u. inr (⊎_elim (λ v. inl (read u v)) (λ v. inr (call v)) (lt-or-ge q (call_roots L)))) (lt-or-ge q (length L.eroots))
    where
      read : length L.eroots ≤ q → q < call_roots L → ReadPair L (root_of L q)
      read u v =
          let (k, l, hk, hl, e, r) =
          is-root L.troots (read_root L.reads L.target.rows) (reads_need L.reads L.target.rows L.target.bits)
          (length L.eroots) (read_count L.reads) P.read-roots q u v in
          (k, l, hk, hl, one-array L k l e, r)

      call : call_roots L ≤ q → CallPair L (root_of L q)
      call v =
          is-root L.troots (call_root L.calls L.cargs L.target.rows) (one_function L) (call_roots L) (call_count L.calls) P.call-roots
          q v
          (omega (arith, h, P.roots-end))
