-- What acceptance says of every mapped row, entry and root, without classes: all that the two directions of the theorem use. Assumes nothing.
use Prim.Native.Nat.{ℕ, ◌<◌}
use mathlib.Core.Path.{◌≡◌}
use mathlib.Core.Bool.{Bool, true, false}
use mathlib.Core.Logic.{◌⊎◌}
use mathlib.Core.List.{[], map}
use lib.Dec.{eqb}
use lib.ListN.{length, get_or}
use Rattle.sorts.specs.Sorts.{plain}
use Rattle.rows.specs.declared.Graph.TheVariants.{Source, Target}
use Rattle.rows.specs.declared.Node.{Node}
use Rattle.rows.specs.declared.Node.TheVariants.{Var}
use Rattle.rows.specs.Row.{row_at}
use Rattle.rows.specs.Tags.{t_var}
use Rattle.rows.specs.Node.{node_of, operands}
use Rattle.wf.specs.Promise.{WellFormed}
use Rattle.value.specs.Operate.{tag_of, parameters}
use Rattle.lowering.specs.declared.Walk.{Walk}
use Rattle.lowering.specs.declared.Walk.TheVariants.{RanOut, Met, Lost}
use Rattle.lowering.specs.Images.{map_at, unequal_const}
use Rattle.lowering.specs.Tables.{read_count, read_var, read_array, read_index, call_count, call_var, call_function, arg_count, call_arg}
use Rattle.lowering.specs.Tables.{same_function}
use Rattle.lowering.specs.Matching.{walk, mapped_arg, Kind, var, const, core, select, call, unknown, kind_of}
use Rattle.lowering.specs.Roots.{congruent}
use Rattle.lowering.specs.Lowering.{array_sorts, Lowering, source_rows, target_rows}
use Rattle.lowering.specs.Check.{widths_of_source, widths_of_target}

-- whose a target variable is: a source variable's image, a read entry's, a call entry's
pub data Owner : Type 0 where
  by-var : ℕ → Owner
  by_read : ℕ → Owner
  by_call : ℕ → Owner

module _ (L : Lowering) where
  -- the nodes of source and target, and the map
  abbrev pub S : ℕ → Node
  S i = node_of (row_at Source L.source.rows i)

  abbrev pub T : ℕ → Node
  T r = node_of (row_at Target L.target.rows r)

  abbrev pub m : ℕ → ℕ
  m i = map_at L.map i

  -- a row with an image; target row y is an image
  abbrev pub Mapped : ℕ → Type 0
  Mapped i = (i < source_rows L) × (m i < target_rows L)

  abbrev pub Image : ℕ → Type 0
  Image y = (x : ℕ) × Mapped x × (m x ≡ y)

  -- entries k and l are calls of one function
  abbrev pub one_function : ℕ → ℕ → Bool
  one_function k l = same_function L.calls L.cargs (widths_of_target L) k l

  -- the layer below: both graphs are well formed, the target holds core rows and bits
  pub record Formed : Type 0 where
    pub source-formed : WellFormed (array_sorts L) Source (length L.source.bits) L.source.side L.source.rows (widths_of_source L)
    pub target-formed : WellFormed plain Target (length L.target.bits) [] L.target.rows (widths_of_target L)
    pub source-bits : (k : ℕ) → get_or L.source.bits k 0 < 2
    pub target-bits : (k : ℕ) → get_or L.target.bits k 0 < 2
    pub target-core : (r : ℕ) → r < target_rows L → tag_of (T r) < 37

  -- a core row and its image: one operator, one list of parameters, mapped operands
  pub record SameCore (node image : Node) : Type 0 where
    pub no-var : eqb (tag_of node) t_var ≡ false
    pub same_tag : tag_of image ≡ tag_of node
    pub same-parameters : parameters L.target.bits image ≡ parameters L.source.bits node
    pub mapped-operands : operands image ≡ map m (operands node)

  -- read entry q is that of row r, for an array and an index row y
  pub record ReadOf (q r a y : ℕ) : Type 0 where
    pub inside : q < read_count L.reads
    pub variable-is : read_var L.reads q ≡ r
    pub array-is : read_array L.reads q ≡ a
    pub index_is : read_index L.reads q ≡ y

  -- call entry q is that of row r, for a function and k arguments xs
  pub record CallOf (q r f k : ℕ) (xs : ℕ → ℕ) : Type 0 where
    pub inside : q < call_count L.calls
    pub variable-is : call_var L.calls q ≡ r
    pub function-is : call_function L.calls q ≡ f
    pub count-is : arg_count L.calls q ≡ k
    pub args_are : (l : ℕ) → l < k → call_arg L.calls L.cargs q l ≡ xs l

  -- where a walk for array a and index row j ends
  abbrev pub Ends : ℕ → ℕ → Walk → Type 0
  Ends a j (RanOut r) = (q : ℕ) × ReadOf q r a (m j)
  Ends a j (Met r v) = r ≡ m v
  Ends a j Lost = ⊥

  abbrev pub walk_of : ℕ → ℕ → ℕ → ℕ → Walk
  walk_of j k s r = walk L.source L.map L.target.rows j k s r

  -- what is found at the image of row i, by its kind
  abbrev FoundBy : ℕ → Node → Kind → Type 0
  FoundBy i node (var w) = T (m i) ≡ Var w
  FoundBy i node const = SameCore node (T (m i))
  FoundBy i node (core c) = SameCore node (T (m i))
  FoundBy i node (select a j s k) = Ends a j (walk_of j k s (m i))
  FoundBy i node (call f w s k) = (T (m i) ≡ Var w) × ((q : ℕ) × CallOf q (m i) f k (mapped_arg L.map L.source.side s))
  FoundBy i node unknown = ⊥

  abbrev pub Found : ℕ → Node → Type 0
  Found i node = FoundBy i node (kind_of node)

  -- a read entry: its variable is a row of the array's cell width, its index an image of the array's index width
  pub record ReadEntry (q : ℕ) : Type 0 where
    pub inside : read_var L.reads q < target_rows L
    pub is-var : T (read_var L.reads q) ≡ Var ((array_sorts L).cell (read_array L.reads q))
    pub index-width : get_or (widths_of_target L) (read_index L.reads q) 0 ≡ (array_sorts L).index (read_array L.reads q)
    pub index-image : Image (read_index L.reads q)

  -- a call entry: its variable is a Var row, its arguments are images
  pub record CallEntry (q : ℕ) : Type 0 where
    pub inside : call_var L.calls q < target_rows L
    pub width : ℕ
    pub is-var : T (call_var L.calls q) ≡ Var width
    pub args-image : (l : ℕ) → l < arg_count L.calls q → Image (call_arg L.calls L.cargs q l)

  abbrev pub Owns : Owner → ℕ → Type 0
  Owns (by-var i) r = Mapped i × ((w : ℕ) × (S i ≡ Var w)) × (m i ≡ r)
  Owns (by_read q) r = (q < read_count L.reads) × (read_var L.reads q ≡ r)
  Owns (by_call q) r = (q < call_count L.calls) × (call_var L.calls q ≡ r)

  -- target row r is the congruence root of two entries
  abbrev pub ReadCong : ℕ → ℕ → ℕ → Type 0
  ReadCong k l r =
      congruent L.target.rows (λ _. read_index L.reads k) (λ _. read_index L.reads l) 1 (read_var L.reads k) (read_var L.reads l) r ≡ true

  abbrev pub CallCong : ℕ → ℕ → ℕ → Type 0
  CallCong k l r =
      congruent L.target.rows (call_arg L.calls L.cargs k) (call_arg L.calls L.cargs l) (arg_count L.calls k) (call_var L.calls k)
      (call_var L.calls l) r ≡ true

  -- a root that is the congruence root of some two entries of one array, of one function
  abbrev pub ReadPair : ℕ → Type 0
  ReadPair r =
      (k : ℕ) × (l : ℕ) × (k < read_count L.reads) × (l < read_count L.reads) × (read_array L.reads k ≡ read_array L.reads l) × ReadCong k l r

  abbrev pub CallPair : ℕ → Type 0
  CallPair r = (k : ℕ) × (l : ℕ) × (k < call_count L.calls) × (l < call_count L.calls) × (one_function k l ≡ true) × CallCong k l r

  -- position q of the target's roots
  abbrev pub root_of : ℕ → ℕ
  root_of q = get_or L.troots q 0

  pub record Matched : Type 0 where
    pub of_row : (i : ℕ) → Mapped i → Found i (S i)
    pub of-read : (q : ℕ) → q < read_count L.reads → ReadEntry q
    pub of-call : (q : ℕ) → q < call_count L.calls → CallEntry q
    pub one-owner : (o p : Owner) (r : ℕ) → Owns o r → Owns p r → o ≡ p
    pub of-root : (q : ℕ) → q < length L.eroots → Mapped (get_or L.eroots q 0) × (q < length L.troots) × (root_of q ≡ m (get_or L.eroots q 0))
    -- two unequal constant indices need no root
    pub cong-read : (k l : ℕ) → k < l → l < read_count L.reads → read_array L.reads k ≡ read_array L.reads l
        → (unequal_const L.target.bits (row_at Target L.target.rows (read_index L.reads k))
        (row_at Target L.target.rows (read_index L.reads l)) ≡ true)
        ⊎ ((q : ℕ) × (q < length L.troots) × ReadCong k l (root_of q))
    pub cong-call : (k l : ℕ) → k < l → l < call_count L.calls → one_function k l ≡ true
        → (q : ℕ) × (q < length L.troots) × CallCong k l (root_of q)
    pub only : (q : ℕ) → q < length L.troots → (q < length L.eroots) ⊎ (ReadPair (root_of q) ⊎ CallPair (root_of q))
