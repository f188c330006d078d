-- Laws of rows: what a row that passes a test says. Assumes nothing.
use Prim.Native.Nat.{ℕ, ◌<◌}
use mathlib.Core.Path.{◌≡◌}
use mathlib.Core.Bool.{true}
use mathlib.Core.List.{List}
use borrow.Author.Tests.{eqb-true, ltb-true}
use lib.Dec.{eqb}
use lib.ListN.{get_or}
use Rattle.lists.proofs.Tests.{all_true, agree_at}
use Rattle.bitwise.proofs.Digits.{of_bits-cong}
use Rattle.rows.specs.declared.Graph.TheVariants.{Target}
use Rattle.rows.specs.declared.Node.{Node}
use Rattle.rows.specs.declared.Node.TheVariants.{Var, Const, Un, Bin, Extract, Extend, Ite, Select, Call, Unknown}
use Rattle.rows.specs.Row.{row_count, row_at}
use Rattle.rows.specs.Tags.{t_var, t_ite, t_not, t_bool_and, t_bool_or}
use Rattle.rows.proofs.View.{TagGood}
use Rattle.rows.specs.Node.{node_of}
use Rattle.value.specs.Operate.{parameters, const_number}
use Rattle.lowering.specs.Images.{map_node, tag_at, field_at, same_const}
use Rattle.lowering.specs.Matching.{is_eq, is_level}
use Rattle.lowering.proofs.Images.{const-row, both-const}

-- a good tag stays one where the operands are mapped
pub map-good : (map : List ℕ) (node : Node) → TagGood node → TagGood (map_node map node)
map-good map (Var w) g = tt
map-good map (Const s w) g = tt
map-good map (Un t a) g = g
map-good map (Bin t a b) g = g
map-good map (Extract h l a) g = tt
map-good map (Extend t a n) g = g
map-good map (Ite c t e) g = tt
map-good map (Select a j s k) g = tt
map-good map (Call f w s k) g = tt
map-good map Unknown g = tt

-- a row with a variable's tag
pub var-row : (r : List ℕ) → get_or r 0 0 ≡ t_var → node_of r ≡ Var (get_or r 1 0)
var-row r e = rw e

-- two constants of one width and bits, each in its own list of bits
pub same_const_lem : (b c r q : List ℕ) → same_const b r c q ≡ true
    → (node_of r ≡ Const (get_or r 1 0) (get_or r 2 0)) × (node_of q ≡ Const (get_or q 1 0) (get_or q 2 0))
    × (parameters b (node_of r) ≡ parameters c (node_of q))
unfolding same_const
same_const_lem b c r q e =
    let (k, (w, (s, _))) = all_true _ e in
    let (x, y) = both-const r q k in
    let v : get_or r 2 0 ≡ get_or q 2 0 = eqb-true _ _ w in
    let n : const_number b (get_or r 1 0) (get_or r 2 0) ≡ const_number c (get_or q 1 0) (get_or r 2 0) =
    of_bits-cong (get_or r 2 0) _ _ (agree_at _ _ (get_or r 2 0) s) in
    (const-row r x, const-row q y, rw (const-row r x, const-row q y, n, v))

-- rows of a target, by their number
module _ (target : List ℕ) where
  -- one level of a walk: the rest is the row's third field
  pub ite-row : (a b v r : ℕ) → is_level target a b v r ≡ true
      → (r < row_count Target target) × (node_of (row_at Target target r) ≡ Ite (field_at target r 1) v (field_at target r 3))
      × (is_eq target a b (field_at target r 1) ≡ true)
  unfolding is_level
  ite-row a b v r e =
      let (x, (y, (z, (q, _)))) = all_true _ e in
      (ltb-true _ _ x, rw (eqb-true (tag_at target r) t_ite y, eqb-true (field_at target r 2) v z), q)

  pub and-row : (r : ℕ) → eqb (tag_at target r) t_bool_and ≡ true
      → node_of (row_at Target target r) ≡ Bin t_bool_and (field_at target r 1) (field_at target r 2)
  and-row r e = rw (eqb-true (tag_at target r) t_bool_and e)

  pub or-row : (r : ℕ) → eqb (tag_at target r) t_bool_or ≡ true → node_of (row_at Target target r) ≡ Bin t_bool_or (field_at target r 1)
      (field_at target r 2)
  or-row r e = rw (eqb-true (tag_at target r) t_bool_or e)

  pub not-row : (r : ℕ) → eqb (tag_at target r) t_not ≡ true → node_of (row_at Target target r) ≡ Un t_not (field_at target r 1)
  not-row r e = rw (eqb-true (tag_at target r) t_not e)
