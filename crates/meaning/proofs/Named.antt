-- Only what a source names has a bearing on its values: its Var rows, the arrays of its Select rows, the function symbols of its Call rows. The
-- lists of values are equal row by row; what a Call asks for is a parameter, so that one proof serves all lists and those of its symbol.
-- Assumes nothing.
use Prim.Native.Nat.{ℕ, zero, suc, ◌+◌, ◌<◌, ◌≤◌, ◌%◌, ◌^◌}
use mathlib.Core.Path.{◌≡◌, refl, sym, ap, ◌∙◌}
use mathlib.Core.Bool.{false}
use mathlib.Core.List.{List}
use native.Mathlib.Nat.{mod-lt, mod-eq_of_lt}
use native.Mathlib.Omega.{arith}
use lib.Dec.{eqb}
use lib.ListN.{length, get_or}
use lib.Pow.{pow_pos}
use Rattle.sorts.specs.Sorts.{Sorts}
use Rattle.lists.specs.Build.{build}
use Rattle.lists.specs.Trace.{tabulate}
use Rattle.lists.proofs.Build.{build-stay}
use Rattle.lists.proofs.Tests.{tabulate-length}
use Rattle.rows.specs.declared.Graph.TheVariants.{Source}
use Rattle.rows.specs.declared.Node.{Node}
use Rattle.rows.specs.declared.Node.TheVariants.{Var, Const, Un, Bin, Extract, Extend, Ite, Select, Call, Unknown}
use Rattle.rows.specs.Row.{row_count, row_at}
use Rattle.rows.specs.Tags.{t_var}
use Rattle.rows.specs.Node.{node_of}
use Rattle.rows.proofs.Tags.{un-tags, extend-tags}
use Rattle.rows.proofs.View.{TagGood, node-good}
use Rattle.wf.specs.Promise.{RowFormed, WellFormed}
use Rattle.value.specs.Val.{Val, val, wid, arg}
use Rattle.meaning.specs.Meaning.{Interpretation, OfKind, source_node, source_row, source_values, source_value, is_true, RootsTrue}
use Rattle.meaning.specs.Meaning.{SourceSatisfiable}
use Rattle.meaning.proofs.Values.{source-width}

-- two interpretations agree on what a source names; a Call of k arguments from s on asks for its symbol at some lists of values
pub record SameNames (Asked : ℕ → ℕ → List Val → Type 0) (g : List ℕ) (I J : Interpretation) : Type 0 where
  pub variables-same : (i w : ℕ) → i < row_count Source g → node_of (row_at Source g i) ≡ Var w → I.variable i ≡ J.variable i
  pub arrays-same : (i a j s k : ℕ) → i < row_count Source g → node_of (row_at Source g i) ≡ Select a j s k → (x : ℕ) → I.array a x ≡ J.array a x
  pub functions-same : (i f w s k : ℕ) → i < row_count Source g → node_of (row_at Source g i) ≡ Call f w s k → (vs : List Val) → Asked s k vs
      → I.function f w vs ≡ J.function f w vs

-- every list
abbrev pub Every : ℕ → ℕ → List Val → Type 0
Every s k vs = Unit {0}

-- the lists that row i's Call passes are asked for
abbrev pub Asks : Sorts → (ℕ → ℕ → List Val → Type 0) → List ℕ → List ℕ → List ℕ → Interpretation → Type 0
Asks σ Asked g bits side I =
    (i f w s k : ℕ) → i < row_count Source g → node_of (row_at Source g i) ≡ Call f w s k
    → Asked s k (tabulate (λ l. get_or (source_values σ g bits side I i) (get_or side (s + l) 0) (val 0 0)) k)

-- equal values: the roots are true in both or in neither
pub roots-same : (f h : ℕ → Val) → ((i : ℕ) → f i ≡ h i) → (roots : List ℕ) → RootsTrue f roots → RootsTrue h roots
roots-same f h e roots r k l = ap is_true (sym (e (get_or roots k 0))) ∙ r k l

module _ (σ : Sorts) (Asked : ℕ → ℕ → List Val → Type 0) (g bits side : List ℕ) (I J : Interpretation) (same : SameNames Asked g I J)
    (asks : Asks σ Asked g bits side I) where
  -- a row over the same values before it
  row_same : (i : ℕ) → i < row_count Source g → (node : Node) → node_of (row_at Source g i) ≡ node → TagGood node
      → source_node σ bits side I (λ a. get_or (source_values σ g bits side I i) a (val 0 0)) i node
      ≡ source_node σ bits side J (λ a. get_or (source_values σ g bits side I i) a (val 0 0)) i node
  row_same i h (Var w) e t = ap (val w) (same.variables-same i w h e)
  row_same i h (Const s w) e t = refl
  row_same i h (Un k a) e t = rw (un-tags (λ z. eqb z t_var ≡ false) k refl refl refl t)
  row_same i h (Bin k a b) e t = rw t.no-var
  row_same i h (Extract x l a) e t = refl
  row_same i h (Extend k a n) e t = rw (extend-tags (λ z. eqb z t_var ≡ false) k refl refl t)
  row_same i h (Ite c x y) e t = refl
  row_same i h (Select a j s k) e t = rw (same.arrays-same i a j s k h e)
  row_same i h (Call f w s k) e t = ap (val w) (same.functions-same i f w s k h e _ (asks i f w s k h e))
  row_same i h Unknown e t = refl

  values_same : (n : ℕ) → n ≤ row_count Source g → source_values σ g bits side I n ≡ source_values σ g bits side J n
  unfolding build
  values_same zero h = refl
  values_same (suc n) h =
      rw (← values_same n (omega arith), row_same n h (node_of (row_at Source g n)) refl (node-good (row_at Source g n)))

  pub value_same : (i : ℕ) → source_value σ g bits side I i ≡ source_value σ g bits side J i
  value_same i = ap (λ (vs : List Val). get_or vs i (val 0 0)) (values_same (row_count Source g) (omega arith))

-- of its kind in what a source names: 01's interpretation of a source, where `OfKind` holds the rest to the same
pub record KindNamed (σ : Sorts) (Asked : ℕ → ℕ → List Val → Type 0) (g : List ℕ) (I : Interpretation) : Type 0 where
  pub variables-fit : (i w : ℕ) → i < row_count Source g → node_of (row_at Source g i) ≡ Var w → I.variable i < 2 ^ w
  pub cells_fit : (i a j s k : ℕ) → i < row_count Source g → node_of (row_at Source g i) ≡ Select a j s k → (x : ℕ) → I.array a x < 2 ^ σ.cell a
  pub results_fit : (i f w s k : ℕ) → i < row_count Source g → node_of (row_at Source g i) ≡ Call f w s k → (vs : List Val) → Asked s k vs
      → I.function f w vs < 2 ^ w

-- cells and results taken modulo their power of two: of its kind everywhere, and the same where it was already
abbrev clip : Sorts → Interpretation → Interpretation
clip σ I =
    record {
      variable = I.variable;
      array = λ a x. I.array a x % 2 ^ σ.cell a;
      function = λ f w vs. I.function f w vs % 2 ^ w;
    }

clip-kind : (σ : Sorts) (Asked : ℕ → ℕ → List Val → Type 0) (g : List ℕ) (I : Interpretation) → KindNamed σ Asked g I → OfKind σ (clip σ I) g
clip-kind σ Asked g I kind =
    record {
      variables-fit = kind.variables-fit;
      cells_fit = λ a x. mod-lt (I.array a x) (pow_pos (σ.cell a));
      results_fit = λ f w vs. mod-lt (I.function f w vs) (pow_pos w);
    }

clip-same : (σ : Sorts) (Asked : ℕ → ℕ → List Val → Type 0) (g : List ℕ) (I : Interpretation) → KindNamed σ Asked g I → SameNames Asked g I (clip σ I)
clip-same σ Asked g I kind =
    record {
      variables-same = λ i w h e. refl;
      arrays-same = λ i a j s k h e x. sym (mod-eq_of_lt (kind.cells_fit i a j s k h e x));
      functions-same = λ i f w s k h e vs q. sym (mod-eq_of_lt (kind.results_fit i f w s k h e vs q));
    }

module _ (σ : Sorts) (Asked : ℕ → ℕ → List Val → Type 0) (g bits side : List ℕ) (I : Interpretation) (asks : Asks σ Asked g bits side I) where
  kind-satisfies : (roots : List ℕ) → KindNamed σ Asked g I → RootsTrue (source_value σ g bits side I) roots → SourceSatisfiable σ g bits side roots
  kind-satisfies roots kind true-roots =
      let same = clip-same σ Asked g I kind in
      (clip σ I, clip-kind σ Asked g I kind, roots-same _ _ (value_same σ Asked g bits side I (clip σ I) same asks) roots true-roots)

-- ---- in any source, a symbol at every list: interpretations that agree on what it names give its rows one value, its roots are true in both or
-- in neither, and one that is of its kind in what the source names satisfies it
module _ (σ : Sorts) (g bits side : List ℕ) (I : Interpretation) where
  pub named-values : (J : Interpretation) → SameNames Every g I J → (i : ℕ) → source_value σ g bits side I i ≡ source_value σ g bits side J i
  named-values J same = value_same σ Every g bits side I J same (λ i f w s k h e. tt)

  pub named-roots : (J : Interpretation) → SameNames Every g I J → (roots : List ℕ) → RootsTrue (source_value σ g bits side I) roots
      → RootsTrue (source_value σ g bits side J) roots
  named-roots J same = roots-same _ _ (named-values J same)

  pub named-satisfies : (roots : List ℕ) → KindNamed σ Every g I → RootsTrue (source_value σ g bits side I) roots
      → SourceSatisfiable σ g bits side roots
  named-satisfies = kind-satisfies σ Every g bits side I (λ i f w s k h e. tt)

-- ---- in a well-formed source, a symbol at the lists of values that it takes: as many as the Call has arguments, of their rows' widths
-- ("A function symbol is its number, argument count, argument widths and result width")
abbrev pub OfSymbol : List ℕ → List ℕ → ℕ → ℕ → List Val → Type 0
OfSymbol side ws s k vs = (length vs ≡ k) × ((l : ℕ) → l < k → wid (arg vs l) ≡ get_or ws (get_or side (s + l) 0) 0)

table-arg : (f : ℕ → Val) (n l : ℕ) → l < n → arg (tabulate f n) l ≡ f l
unfolding tabulate
table-arg f zero l h = absurd (omega arith)
table-arg f (suc n) zero h = refl
table-arg f (suc n) (suc l) h = table-arg (λ k. f (suc k)) n l (omega arith)

module _ (σ : Sorts) (g bits side ws : List ℕ) (I : Interpretation) (formed : WellFormed σ Source (length bits) side g ws) where
  asks-symbols : Asks σ (OfSymbol side ws) g bits side I
  asks-symbols i f w s k h e =
      (tabulate-length (λ l. look (get_or side (s + l) 0)) k, λ l u. ap wid (table-arg (λ l. look (get_or side (s + l) 0)) k l u) ∙ arg-width l u)
    where
      look : ℕ → Val
      look a = get_or (source_values σ g bits side I i) a (val 0 0)

      row : RowFormed σ (length bits) side (λ a. get_or ws a 0) i (Call f w s k)
      row = rw e at (formed i h)

      arg-width : (l : ℕ) → l < k → wid (look (get_or side (s + l) 0)) ≡ get_or ws (get_or side (s + l) 0) 0
      arg-width l u =
          let b = (row.follows.1 l u).arg-earlier in
          ap wid (sym (build-stay (source_row σ g bits side I) (val 0 0) (row_count Source g) i (get_or side (s + l) 0) b (omega arith)))
          ∙ source-width bits side g ws I formed (get_or side (s + l) 0) (omega arith)

  pub symbol-values : (J : Interpretation) → SameNames (OfSymbol side ws) g I J → (i : ℕ)
      → source_value σ g bits side I i ≡ source_value σ g bits side J i
  symbol-values J same = value_same σ (OfSymbol side ws) g bits side I J same asks-symbols

  pub symbol-roots : (J : Interpretation) → SameNames (OfSymbol side ws) g I J → (roots : List ℕ) → RootsTrue (source_value σ g bits side I) roots
      → RootsTrue (source_value σ g bits side J) roots
  symbol-roots J same = roots-same _ _ (symbol-values J same)

  pub symbol-satisfies : (roots : List ℕ) → KindNamed σ (OfSymbol side ws) g I → RootsTrue (source_value σ g bits side I) roots
      → SourceSatisfiable σ g bits side roots
  symbol-satisfies = kind-satisfies σ (OfSymbol side ws) g bits side I asks-symbols
