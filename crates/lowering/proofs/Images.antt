-- What a row that is a given node says: its node, a constant, an Eq. Assumes nothing.
use Prim.Native.Nat.{ℕ, ◌<◌}
use mathlib.Core.Path.{◌≡◌, refl, ◌∙◌}
use mathlib.Core.Bool.{true}
use mathlib.Core.List.{List}
use borrow.Author.Tests.{eqb-true, ltb-true}
use lib.ListN.{get_or}
use Rattle.lists.proofs.Choice.{both}
use Rattle.lists.proofs.Tests.{all_true}
use Rattle.rows.specs.declared.Graph.TheVariants.{Target}
use Rattle.rows.specs.declared.Node.{Node}
use Rattle.rows.specs.declared.Node.TheVariants.{Var, Const, Un, Bin, Extract, Extend, Ite, Select, Call, Unknown}
use Rattle.rows.specs.Row.{row_count, row_at}
use Rattle.rows.specs.Tags.{t_const, t_eq}
use Rattle.rows.specs.Node.{node_from, node_of, row_eq}
use Rattle.rows.proofs.Tags.{un-tags, extend-tags}
use Rattle.rows.proofs.View.{TagGood, node-two, two-node}
use Rattle.lowering.specs.Images.{row_of, row_is, both_const}
use Rattle.lowering.specs.Matching.{is_eq}

-- a row with a constant's tag
pub const-row : (r : List ℕ) → get_or r 0 0 ≡ t_const → node_of r ≡ Const (get_or r 1 0) (get_or r 2 0)
const-row r e = rw e

pub both-const : (r q : List ℕ) → both_const r q ≡ true → (get_or r 0 0 ≡ t_const) × (get_or q 0 0 ≡ t_const)
unfolding both_const
both-const r q e = let (a, (b, _)) = all_true _ e in (eqb-true _ _ a, eqb-true _ _ b)

-- a node is read off its words again
of_words : (node : Node) → TagGood node → node_of (row_of node) ≡ node
of_words (Var w) g = refl
of_words (Const s w) g = refl
of_words (Un t a) g = un-tags (λ t. node_from t a 0 0 0 ≡ Un t a) t refl refl refl g
of_words (Bin t a b) g = two-node t g a b 0 0
of_words (Extract h l a) g = refl
of_words (Extend t a n) g = extend-tags (λ t. node_from t a n 0 0 ≡ Extend t a n) t refl refl g
of_words (Ite c t e) g = refl
of_words (Select a j s k) g = refl
of_words (Call f w s k) g = refl
of_words Unknown g = refl

-- two rows that are one have one node
same-words : (r s : List ℕ) → row_eq r s ≡ true → node_of r ≡ node_of s
same-words r s e =
    let (a, f) = both _ _ e in
    let (b, g) = both _ _ f in
    let (c, h) = both _ _ g in
    let (d, k) = both _ _ h in
    rw (
      eqb-true (get_or r 0 0) (get_or s 0 0) a,
      eqb-true (get_or r 1 0) (get_or s 1 0) b,
      eqb-true (get_or r 2 0) (get_or s 2 0) c,
      eqb-true (get_or r 3 0) (get_or s 3 0) d,
      eqb-true (get_or r 4 0) (get_or s 4 0) k,
    )

-- a row that is a node
pub row_is_lem : (r : List ℕ) (node : Node) → TagGood node → row_is r node ≡ true → node_of r ≡ node
unfolding row_is
row_is_lem r node g e = same-words r (row_of node) e ∙ of_words node g

-- row r is an Eq
module _ (target : List ℕ) where
  pub eq-row : (a b r : ℕ) → is_eq target a b r ≡ true → (r < row_count Target target) × (node_of (row_at Target target r) ≡ Bin t_eq a b)
  unfolding is_eq
  eq-row a b r e =
      let (x, (y, _)) = all_true _ e in
      (ltb-true _ _ x, row_is_lem (row_at Target target r) (Bin t_eq a b) (node-two t_eq (λ a b c d. refl)) y)
