-- In a well-formed source, under an interpretation of its kind, every row's value has the row's width and lies below 2 ^ width: core rows as in a
-- target, a Select by its pairs' rows or the cell, a Call by its result. Assumes nothing.
use Prim.Native.Nat.{ℕ, zero, suc, ◌+◌, ◌*◌, ◌<◌, ◌≤◌, ◌^◌}
use mathlib.Core.Path.{◌≡◌, sym, ap, ◌∙◌, subst}
use mathlib.Core.Bool.{Bool, true, false, cond}
use mathlib.Core.List.{List}
use native.Mathlib.Decide.{dec_lt}
use native.Mathlib.Omega.{arith}
use lib.Dec.{eqb}
use lib.ListN.{length, get_or, get_or-eq_default}
use Rattle.sorts.specs.Sorts.{Sorts}
use Rattle.lists.proofs.Build.{build-length, build-at, build-stay}
use Rattle.lists.proofs.Choice.{strong}
use Rattle.rows.specs.declared.Graph.TheVariants.{Source}
use Rattle.rows.specs.declared.Node.{Node}
use Rattle.rows.specs.declared.Node.TheVariants.{Var, Const, Un, Bin, Extract, Extend, Ite, Select, Call, Unknown}
use Rattle.rows.specs.Row.{row_count, row_at}
use Rattle.encoding.specs.Encoding.{bad_bit}
use Rattle.rows.specs.Node.{node_of}
use Rattle.rows.proofs.Tags.{un-tags, extend-tags}
use Rattle.rows.proofs.View.{TagGood, node-good}
use Rattle.encoding.proofs.Encoding.{clean}
use Rattle.wf.specs.Promise.{RowFormed, WellFormed}
use Rattle.wf.specs.Widths.{ill_row, widths}
use Rattle.wf.proofs.Promise.{well-formed}
use Rattle.value.specs.Val.{Val, val, wid, nat, Fit}
use Rattle.value.specs.Operate.{tag_of}
use Rattle.value.specs.Graph.{node_value}
use Rattle.value.proofs.Formed.{row-formed}
use Rattle.meaning.specs.Meaning.{Interpretation, OfKind, stored, source_node, source_row, source_values, source_value}

-- a choice of two numbers below a bound
cond_below : (b : Bool) (u v m : ℕ) → u < m → v < m → cond b u v < m
cond_below true u v m h l = h
cond_below false u v m h l = l

-- what is read through pairs is below a bound if the cell and every pair's value are
stored-fits : (look : ℕ → Val) (side : List ℕ) (x cell m k s : ℕ) → cell < m → ((l : ℕ) → l < k → nat (look (get_or side (s + 2 * l + 1) 0)) < m)
    → stored look side x cell k s < m
unfolding stored
stored-fits look side x cell m zero s c f = c
stored-fits look side x cell m (suc k) s c f =
    cond_below (eqb (nat (look (get_or side s 0))) x) _ _ m here (stored-fits look side x cell m k (s + 2) c rest)
  where
    here : nat (look (get_or side (s + 1) 0)) < m
    here = let e : s + 2 * 0 + 1 ≡ s + 1 = omega arith in rw e at (f 0 (omega arith))

    rest : (l : ℕ) → l < k → nat (look (get_or side (s + 2 + 2 * l + 1) 0)) < m
    rest l h = let e : s + 2 * suc l + 1 ≡ s + 2 + 2 * l + 1 = omega arith in rw e at (f (suc l) (omega arith))

module _ (σ : Sorts) (bits side : List ℕ) (width : ℕ → ℕ) (look : ℕ → Val) (i : ℕ) (agree : (a : ℕ) → a < i → wid (look a) ≡ width a)
    (fits : (a : ℕ) → Fit (look a)) (bit : (k : ℕ) → get_or bits k 0 < 2) (I : Interpretation)
    (cells : (a x : ℕ) → I.array a x < 2 ^ σ.cell a) (results : (f w : ℕ) (vs : List Val) → I.function f w vs < 2 ^ w) where
  core : (node : Node) → TagGood node → tag_of node < 37 → RowFormed σ (length bits) side width i node
      → ((w : ℕ) → node ≡ Var w → I.variable i < 2 ^ w)
      → (wid (node_value bits I.variable look i node) ≡ width i) × Fit (node_value bits I.variable look i node)
  core node g c r v = row-formed bits side width look i agree I.variable node bit fits g c r v

  -- a row's value, where the operands before it have their widths and fit
  node-fits : (node : Node) → TagGood node → RowFormed σ (length bits) side width i node → ((w : ℕ) → node ≡ Var w → I.variable i < 2 ^ w)
      → (wid (source_node σ bits side I look i node) ≡ width i) × Fit (source_node σ bits side I look i node)
  node-fits (Var w) g r v = core (Var w) g (omega arith) r v
  node-fits (Const s w) g r v = core (Const s w) g (omega arith) r v
  node-fits (Un t a) g r v = core (Un t a) g (un-tags (λ z. z < 37) t (omega arith) (omega arith) (omega arith) g) r v
  node-fits (Bin t a b) g r v = core (Bin t a b) g g.core r v
  node-fits (Extract h l a) g r v = core (Extract h l a) g (omega arith) r v
  node-fits (Extend t a n) g r v = core (Extend t a n) g (extend-tags (λ z. z < 37) t (omega arith) (omega arith) g) r v
  node-fits (Ite c t e) g r v = core (Ite c t e) g (omega arith) r v
  node-fits (Select a j s k) g r v =
      (sym r.follows.0, stored-fits look side (nat (look j)) (I.array a (nat (look j))) (2 ^ σ.cell a) k s (cells a (nat (look j))) pair)
    where
      pair : (l : ℕ) → l < k → nat (look (get_or side (s + 2 * l + 1) 0)) < 2 ^ σ.cell a
      pair l h =
          let p = r.follows.2 l h in
          let y = get_or side (s + 2 * l + 1) 0 in
          subst (λ (w : ℕ). nat (look y) < 2 ^ w) (agree y p.value-earlier ∙ p.value-width) (fits y)
  node-fits (Call f w s k) g r v = (sym r.follows.0, results f w _)
  node-fits Unknown g r v = absurd r.follows

module _ (σ : Sorts) (bits side g ws : List ℕ) (I : Interpretation) (formed : WellFormed σ Source (length bits) side g ws)
    (bit : (k : ℕ) → get_or bits k 0 < 2) (kind : OfKind σ I g) where
  -- every row's value has the row's width and lies below 2 ^ width
  pub source-formed : (i : ℕ) → i < row_count Source g → (wid (source_value σ g bits side I i) ≡ get_or ws i 0) × Fit (source_value σ g bits side I i)
  source-formed = strong P step
    where
      f : ℕ → List Val → Val
      f = source_row σ g bits side I

      n : ℕ
      n = row_count Source g

      P : ℕ → Type 0
      P i = i < n → (wid (source_value σ g bits side I i) ≡ get_or ws i 0) × Fit (source_value σ g bits side I i)

      step : (i : ℕ) → ((j : ℕ) → j < i → P j) → P i
      step i ih h =
          rw (build-at f (val 0 0) n i h)
          (node-fits σ bits side (λ a. get_or ws a 0) (λ a. get_or (source_values σ g bits side I i) a (val 0 0)) i
          (λ a l. ap wid (sym (stay a l)) ∙ (ih a l (omega arith)).0)
          (λ a. fits a (dec_lt a i)) bit I kind.cells_fit kind.results_fit
          (node_of (row_at Source g i)) (node-good (row_at Source g i)) (formed i h) (λ w q. kind.variables-fit i w h q))
        where
          stay : (a : ℕ) → a < i → source_value σ g bits side I a ≡ get_or (source_values σ g bits side I i) a (val 0 0)
          stay a l = build-stay f (val 0 0) n i a l (omega arith)

          fits : (a : ℕ) → Dec (a < i) → Fit (get_or (source_values σ g bits side I i) a (val 0 0))
          fits a (yes l) = subst Fit (stay a l) (ih a l (omega arith)).1
          fits a (no l) =
              let past : length (source_values σ g bits side I i) ≤ a = rw (build-length f i) (omega arith) in
              rw (get_or-eq_default (source_values σ g bits side I i) (val 0 0) past) (omega arith)

-- the same of a source that passes the tests of its bits and its form, with the widths that it then has
pub source_fits : (σ : Sorts) (bits side g : List ℕ) (I : Interpretation) → length bits ≤ bad_bit bits
    → row_count Source g ≤ ill_row σ Source (length bits) side g
    → OfKind σ I g → (i : ℕ) → i < row_count Source g
    → (wid (source_value σ g bits side I i) ≡ get_or (widths σ Source (length bits) side g) i 0) × Fit (source_value σ g bits side I i)
source_fits σ bits side g I b r kind =
    source-formed σ bits side g (widths σ Source (length bits) side g) I (well-formed σ Source (length bits) side g r) (clean bits b) kind
