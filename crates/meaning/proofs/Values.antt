-- The value of a row by its node and the values of its operands, and the widths of a source's values. Assumes nothing.
use Prim.Native.Nat.{ℕ, zero, suc, ◌+◌, ◌*◌, ◌<◌}
use mathlib.Core.Path.{◌≡◌, refl, sym, ap, ◌∙◌}
use mathlib.Core.List.{List, [], ◌∷◌, map}
use native.Mathlib.Omega.{arith}
use borrow.Author.Tests.{ne_eqb, eqb-false}
use lib.ListN.{length, get_or}
use Rattle.sorts.specs.Sorts.{Sorts}
use Rattle.lists.proofs.Build.{build-at, build-stay}
use Rattle.lists.proofs.Choice.{strong}
use Rattle.lists.proofs.Tests.{tabulate-same}
use Rattle.rows.specs.declared.Graph.TheVariants.{Source, Target}
use Rattle.rows.specs.declared.Node.{Node}
use Rattle.rows.specs.declared.Node.TheVariants.{Var, Const, Un, Bin, Extract, Extend, Ite, Select, Call, Unknown}
use Rattle.rows.specs.Row.{row_count, row_at}
use Rattle.rows.specs.Tags.{t_var, is_un, is_extend}
use Rattle.rows.specs.Node.{node_of, operands}
use Rattle.rows.proofs.Tags.{un-tags, extend-tags}
use Rattle.rows.proofs.View.{TagGood, node-good}
use Rattle.wf.specs.Promise.{Below, PairFormed, RowFormed, WellFormed}
use Rattle.value.specs.Val.{Val, val, wid}
use Rattle.value.specs.Operate.{tag_of}
use Rattle.value.specs.Graph.{node_value, row_value, value}
use Rattle.value.proofs.Formed.{core-width, apart}
use Rattle.meaning.specs.Meaning.{Interpretation, stored, source_node, source_row, source_value}

-- k pairs of a side list from s on: index and value are rows below i of these widths
abbrev pub Pairs : ℕ → ℕ → (ℕ → ℕ) → ℕ → List ℕ → ℕ → ℕ → Type 0
Pairs iw cw width i side zero s = Unit {0}
Pairs iw cw width i side (suc k) s =
    (get_or side s 0 < i) × (width (get_or side s 0) ≡ iw) × (get_or side (s + 1) 0 < i) × (width (get_or side (s + 1) 0) ≡ cw)
    × Pairs iw cw width i side k (s + 2)

pub pairs-formed : (iw cw : ℕ) (width : ℕ → ℕ) (i : ℕ) (side : List ℕ) (k s : ℕ) → ((l : ℕ) → l < k → PairFormed iw cw side width i s l)
    → Pairs iw cw width i side k s
pairs-formed iw cw width i side zero s f = tt
pairs-formed iw cw width i side (suc k) s f =
    let p = f 0 (omega arith) in
    let z : s + 2 * 0 ≡ s = omega arith in (
      rw z at p.index-earlier,
      rw z at p.index-width,
      rw z at p.value-earlier,
      rw z at p.value-width,
      pairs-formed iw cw width i side k (s + 2) (λ l h. next l (f (suc l) (omega arith))),
    )
  where
    next : (l : ℕ) → PairFormed iw cw side width i s (suc l) → PairFormed iw cw side width i (s + 2) l
    next l p =
        let e : s + 2 * suc l ≡ s + 2 + 2 * l = omega arith in
        record {
          within = omega (arith, p.within);
          index-earlier = rw e at p.index-earlier;
          index-width = rw e at p.index-width;
          value-earlier = rw e at p.value-earlier;
          value-width = rw e at p.value-width;
        }

-- a node's value asks for the values of earlier rows alone
module _ (look see : ℕ → Val) (i : ℕ) (same : (a : ℕ) → a < i → look a ≡ see a) where
  map-look : (l : List ℕ) → Below i l → map look l ≡ map see l
  map-look [] b = refl
  map-look (a ∷ l) b = rw (same a b.0, map-look l b.1)

  node-look : (bits : List ℕ) (given : ℕ → ℕ) (node : Node) → Below i (operands node)
      → node_value bits given look i node ≡ node_value bits given see i node
  node-look bits given node b = rw (map-look (operands node) b)

  stored-look : (iw cw : ℕ) (width : ℕ → ℕ) (side : List ℕ) (x cell k s : ℕ) → Pairs iw cw width i side k s
      → stored look side x cell k s ≡ stored see side x cell k s
  unfolding stored
  stored-look iw cw width side x cell zero s p = refl
  stored-look iw cw width side x cell (suc k) s p =
      rw (same _ p.0, same _ p.2, stored-look iw cw width side x cell k (s + 2) p.4)

  source-look : {σ : Sorts} (bits side : List ℕ) (I : Interpretation) (width : ℕ → ℕ) (node : Node) → RowFormed σ (length bits) side width i node
      → source_node σ bits side I look i node ≡ source_node σ bits side I see i node
  source-look bits side I width (Var w) r = refl
  source-look bits side I width (Const s w) r = refl
  source-look bits side I width (Un t a) r = node-look bits I.variable (Un t a) r.earlier
  source-look bits side I width (Bin t a b) r = node-look bits I.variable (Bin t a b) r.earlier
  source-look bits side I width (Extract h l a) r = node-look bits I.variable (Extract h l a) r.earlier
  source-look bits side I width (Extend t a n) r = node-look bits I.variable (Extend t a n) r.earlier
  source-look bits side I width (Ite c t e) r = node-look bits I.variable (Ite c t e) r.earlier
  source-look {σ = σ} bits side I width (Select a j s k) r =
      rw (same j r.earlier.0) (ap (val (σ.cell a)) (stored-look (σ.index a) (σ.cell a) width side _ _ k s
      (pairs-formed (σ.index a) (σ.cell a) width i side k s r.follows.2)))
  source-look bits side I width (Call f w s k) r =
      ap (λ (vs : List Val). val w (I.function f w vs)) (tabulate-same _ _ k (λ l h. same _ (r.follows.1 l h).arg-earlier))
  source-look bits side I width Unknown r = refl

module _ {σ : Sorts} (bits side g ws : List ℕ) (given : ℕ → ℕ) (formed : WellFormed σ Target (length bits) side g ws) where
  pub target-value : (r : ℕ) → r < row_count Target g
      → value bits given g r ≡ node_value bits given (value bits given g) r (node_of (row_at Target g r))
  target-value r h =
      let f = row_value bits given g in
      build-at f (val 0 0) (row_count Target g) r h
      ∙ sym (node-look _ _ r (λ a l. build-stay f (val 0 0) (row_count Target g) r a l (omega arith)) bits given (node_of (row_at Target g r))
      (formed r h).earlier)

module _ {σ : Sorts} (bits side g ws : List ℕ) (I : Interpretation) (formed : WellFormed σ Source (length bits) side g ws) where
  pub source-value : (i : ℕ) → i < row_count Source g
      → source_value σ g bits side I i ≡ source_node σ bits side I (source_value σ g bits side I) i (node_of (row_at Source g i))
  source-value i h =
      let f = source_row σ g bits side I in
      build-at f (val 0 0) (row_count Source g) i h
      ∙ sym (source-look _ _ i (λ a l. build-stay f (val 0 0) (row_count Source g) i a l (omega arith)) bits side I (λ a. get_or ws a 0)
      (node_of (row_at Source g i)) (formed i h))

  -- a source value has its row's width
  pub source-width : (i : ℕ) → i < row_count Source g → wid (source_value σ g bits side I i) ≡ get_or ws i 0
  source-width =
      strong P (λ i ih h. ap wid (source-value i h) ∙ step i (node_of (row_at Source g i)) (node-good (row_at Source g i))
      (λ a l. ih a l (omega arith))
      (formed i h))
    where
      P : ℕ → Type 0
      P i = i < row_count Source g → wid (source_value σ g bits side I i) ≡ get_or ws i 0

      look : ℕ → Val
      look = source_value σ g bits side I

      width : ℕ → ℕ
      width a = get_or ws a 0

      core : (i : ℕ) (node : Node) → TagGood node → tag_of node < 37 → (tag_of node ≡ t_var → ⊥) → ((a : ℕ) → a < i → wid (look a) ≡ width a)
          → RowFormed σ (length bits) side width i node → wid (node_value bits I.variable look i node) ≡ width i
      core i node t c v ih r = rw (ne_eqb (tag_of node) t_var v) (core-width bits side width look i ih node t c v r)

      step : (i : ℕ) (node : Node) → TagGood node → ((a : ℕ) → a < i → wid (look a) ≡ width a) → RowFormed σ (length bits) side width i node
          → wid (source_node σ bits side I look i node) ≡ width i
      step i (Var w) t ih r = sym r.follows
      step i (Const s w) t ih r = core i (Const s w) t (omega arith) (λ z. omega arith) ih r
      step i (Un k a) t ih r =
          core i (Un k a) t (un-tags (λ z. z < 37) k (omega arith) (omega arith) (omega arith) t) (eqb-false k t_var (apart is_un t_var k refl t))
          ih r
      step i (Bin k a b) t ih r = core i (Bin k a b) t t.core (eqb-false k t_var t.no-var) ih r
      step i (Extract h l a) t ih r = core i (Extract h l a) t (omega arith) (λ z. omega arith) ih r
      step i (Extend k a n) t ih r =
          core i (Extend k a n) t (extend-tags (λ z. z < 37) k (omega arith) (omega arith) t) (eqb-false k t_var (apart is_extend t_var k refl t))
          ih r
      step i (Ite c a b) t ih r = core i (Ite c a b) t (omega arith) (λ z. omega arith) ih r
      step i (Select a j s k) t ih r = sym r.follows.0
      step i (Call f w s k) t ih r = sym r.follows.0
      step i Unknown t ih r = absurd r.follows
