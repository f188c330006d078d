-- What source and target graphs mean (01, 'Meaning'): interpretations, values of source rows, true roots, satisfiability. At every width.
-- Assumes nothing.
use Rattle.std.specs.Prelude.{ℕ, zero, suc, ◌+◌, ◌<◌, ◌^◌, ◌≡◌, Bool, true, false, cond, List, [], ◌∷◌, eqb, length, get_or}
use Rattle.sorts.specs.Sorts.{Sorts}
use Rattle.lists.specs.Build.{build}
use Rattle.lists.specs.Tests.{all}
use Rattle.lists.specs.Trace.{tabulate}
use Rattle.rows.specs.declared.Graph.TheVariants.{Source}
use Rattle.rows.specs.declared.Node.{Node}
use Rattle.rows.specs.declared.Node.TheVariants.{Var, Const, Un, Bin, Extract, Extend, Ite, Select, Call, Unknown}
use Rattle.rows.specs.Row.{row_count, row_at}
use Rattle.rows.specs.Node.{node_of}
use Rattle.value.specs.Val.{Val, val, wid, nat}
use Rattle.value.specs.Graph.{node_value, value, Assigns}

-- "An interpretation of a source gives each Var row, array and function symbol in it a value of its kind". An array gives a cell to each
-- index; a function symbol is its number, result width, and the count and widths of its arguments, which the list of values holds
pub record Interpretation : Type 0 where
  pub variable : ℕ → ℕ
  pub array : ℕ → ℕ → ℕ
  pub function : ℕ → ℕ → List Val → ℕ

-- of its kind: "its value lies below 2^w", a cell's below 2 to its array's cell width. Arrays and symbols that a source does not name have no bearing
-- on it, and are held to the same
pub record OfKind (σ : Sorts) (I : Interpretation) (g : List ℕ) : Type 0 where
  pub variables-fit : (i w : ℕ) → i < row_count Source g → node_of (row_at Source g i) ≡ Var w → I.variable i < 2 ^ w
  pub cells_fit : (a x : ℕ) → I.array a x < 2 ^ σ.cell a
  pub results_fit : (f w : ℕ) (vs : List Val) → I.function f w vs < 2 ^ w

-- "A Select has the value of the first pair whose index equals its own, else the array's byte": k pairs of the side list from s on
unfoldable pub stored : (ℕ → Val) → List ℕ → ℕ → ℕ → ℕ → ℕ → ℕ
stored look side x cell zero s = cell
stored look side x cell (suc k) s =
    cond (eqb (nat (look (get_or side s 0))) x) (nat (look (get_or side (s + 1) 0))) (stored look side x cell k (s + 2))

-- the value of source row i, where σ are the sorts of the arrays: core rows as in a target; "a Call has its function's value at its arguments"
abbrev pub source_node : Sorts → List ℕ → List ℕ → Interpretation → (ℕ → Val) → ℕ → Node → Val
source_node σ bits side I look i (Var w) = node_value bits I.variable look i (Var w)
source_node σ bits side I look i (Const s w) = node_value bits I.variable look i (Const s w)
source_node σ bits side I look i (Un t a) = node_value bits I.variable look i (Un t a)
source_node σ bits side I look i (Bin t a b) = node_value bits I.variable look i (Bin t a b)
source_node σ bits side I look i (Extract h l a) = node_value bits I.variable look i (Extract h l a)
source_node σ bits side I look i (Extend t a n) = node_value bits I.variable look i (Extend t a n)
source_node σ bits side I look i (Ite c t e) = node_value bits I.variable look i (Ite c t e)
source_node σ bits side I look i (Select a j s k) = val (σ.cell a) (stored look side (nat (look j)) (I.array a (nat (look j))) k s)
source_node σ bits side I look i (Call f w s k) = val w (I.function f w (tabulate (λ l. look (get_or side (s + l) 0)) k))
source_node σ bits side I look i Unknown = val 0 0

abbrev pub source_row : Sorts → List ℕ → List ℕ → List ℕ → Interpretation → ℕ → List Val → Val
source_row σ g bits side I i vs = source_node σ bits side I (λ a. get_or vs a (val 0 0)) i (node_of (row_at Source g i))

-- rows in order, each from the values before it
abbrev pub source_values : Sorts → List ℕ → List ℕ → List ℕ → Interpretation → ℕ → List Val
source_values σ g bits side I n = build (source_row σ g bits side I) n

abbrev pub source_value : Sorts → List ℕ → List ℕ → List ℕ → Interpretation → ℕ → Val
source_value σ g bits side I i = get_or (source_values σ g bits side I (row_count Source g)) i (val 0 0)

-- "A root is true when its value is 1, at any width"
abbrev pub is_true : Val → Bool
is_true v = eqb (nat v) 1

-- "Under the strict check a root is true only as a one-bit row with value 1" (02, 2.6)
abbrev pub is_true_bit : Val → Bool
is_true_bit v = all (eqb (wid v) 1 ∷ eqb (nat v) 1 ∷ [])

-- by the check that is asked, the strict one or the other
abbrev pub truth : Bool → Val → Bool
truth true v = is_true_bit v
truth false v = is_true v

-- every root is true, by some truth
abbrev pub RootsTrueBy : (Val → Bool) → (ℕ → Val) → List ℕ → Type 0
RootsTrueBy holds values roots = (k : ℕ) → k < length roots → holds (values (get_or roots k 0)) ≡ true

abbrev pub RootsTrue : (ℕ → Val) → List ℕ → Type 0
RootsTrue values roots = RootsTrueBy is_true values roots

-- "A graph with its roots is satisfiable when some interpretation of it, for a target some assignment, makes every root true"
abbrev pub SourceSatisfiableBy : (Val → Bool) → Sorts → List ℕ → List ℕ → List ℕ → List ℕ → Type 0
SourceSatisfiableBy holds σ g bits side roots = (I : Interpretation) × OfKind σ I g × RootsTrueBy holds (source_value σ g bits side I) roots

abbrev pub TargetSatisfiableBy : (Val → Bool) → List ℕ → List ℕ → List ℕ → Type 0
TargetSatisfiableBy holds g bits roots = (given : ℕ → ℕ) × Assigns given g × RootsTrueBy holds (value bits given g) roots

abbrev pub SourceSatisfiable : Sorts → List ℕ → List ℕ → List ℕ → List ℕ → Type 0
SourceSatisfiable σ g bits side roots = SourceSatisfiableBy is_true σ g bits side roots

abbrev pub TargetSatisfiable : List ℕ → List ℕ → List ℕ → Type 0
TargetSatisfiable g bits roots = TargetSatisfiableBy is_true g bits roots
