-- The shapes of a decoded row, each with what it says of the tag: a fact by shape has one clause for each. Assumes nothing.
use Prim.Native.Nat.{ℕ, ◌<◌, ◌≤◌}
use mathlib.Core.Path.{◌≡◌, refl, subst}
use mathlib.Core.Bool.{Bool, true, false, cond}
use mathlib.Core.List.{List}
use native.Mathlib.Omega.{arith}
use borrow.Author.Tests.{eqb-true, ltb-true, ltb-false, ne_eqb, lt-ltb}
use lib.Dec.{eqb, ltb}
use lib.ListN.{get_or}
use Rattle.rows.specs.declared.Node.{Node}
use Rattle.rows.specs.declared.Node.TheVariants.{Var, Const, Un, Bin, Extract, Extend, Ite, Select, Call, Unknown}
use Rattle.rows.specs.Tags.{t_var, t_const, t_extract, t_ite, t_select, t_call, is_un, is_extend}
use Rattle.rows.specs.Node.{node_from, node_of}
use Rattle.rows.specs.Decoded.{Decoded, BinTag}

-- a tag of two operands, by the tags that it is not
pub record TwoOperands (t : ℕ) : Type 0 where
  pub no-var : eqb t t_var ≡ false
  pub no_const : eqb t t_const ≡ false
  pub no-extract : eqb t t_extract ≡ false
  pub no-extend : is_extend t ≡ false
  pub no-ite : eqb t t_ite ≡ false
  pub no-un : is_un t ≡ false
  pub core : t < t_select

pub data View (t a b c d : ℕ) : Node → Type 0 where
  is-var : t ≡ t_var → View t a b c d (Var a)
  is-const : t ≡ t_const → View t a b c d (Const a b)
  is-extract : t ≡ t_extract → View t a b c d (Extract a b c)
  is-extend : is_extend t ≡ true → View t a b c d (Extend t a b)
  is-ite : t ≡ t_ite → View t a b c d (Ite a b c)
  is-un : is_un t ≡ true → View t a b c d (Un t a)
  is-select : t ≡ t_select → View t a b c d (Select a b c d)
  is_call : t ≡ t_call → View t a b c d (Call a b c d)
  is-bin : TwoOperands t → View t a b c d (Bin t a b)
  is-unknown : t_select ≤ t → View t a b c d Unknown

-- a choice, by its two outcomes
choice : (P : Node → Type 0) (b : Bool) (x y : Node) → (b ≡ true → P x) → (b ≡ false → P y) → P (cond b x y)
choice P true x y f g = f refl
choice P false x y f g = g refl

-- every row has one: the definition's tests in their order
pub view : (t a b c d : ℕ) → View t a b c d (node_from t a b c d)
view t a b c d =
    choice Here (eqb t t_var) _ _ (λ e. is-var (eqb-true t t_var e)) (λ no-var.
    choice Here (eqb t t_const) _ _ (λ e. is-const (eqb-true t t_const e)) (λ no_const.
    choice Here (eqb t t_extract) _ _ (λ e. is-extract (eqb-true t t_extract e)) (λ no-extract.
    choice Here (is_extend t) _ _ is-extend (λ no-extend.
    choice Here (eqb t t_ite) _ _ (λ e. is-ite (eqb-true t t_ite e)) (λ no-ite.
    choice Here (is_un t) _ _ is-un (λ no-un.
    choice Here (eqb t t_select) _ _ (λ e. is-select (eqb-true t t_select e)) (λ _.
    choice Here (eqb t t_call) _ _ (λ e. is_call (eqb-true t t_call e)) (λ _.
    choice Here (ltb t t_select) _ _
    (λ e. is-bin (record {
      no-var = no-var;
      no_const = no_const;
      no-extract = no-extract;
      no-extend = no-extend;
      no-ite = no-ite;
      no-un = no-un;
      core = ltb-true t t_select e;
    }))
    (λ e. is-unknown (ltb-false t t_select e))))))))))
  where
    Here : Node → Type 0
    Here = View t a b c d

-- the same of a row's five words
abbrev pub Shape : List ℕ → Node → Type 0
Shape r node = View (get_or r 0 0) (get_or r 1 0) (get_or r 2 0) (get_or r 3 0) (get_or r 4 0) node

pub view_of : (r : List ℕ) → Shape r (node_of r)
view_of r = view (get_or r 0 0) (get_or r 1 0) (get_or r 2 0) (get_or r 3 0) (get_or r 4 0)

-- what a node that some row has says of its tag
abbrev pub TagGood : Node → Type 0
TagGood (Var w) = Unit {0}
TagGood (Const s w) = Unit {0}
TagGood (Un t a) = is_un t ≡ true
TagGood (Bin t a b) = TwoOperands t
TagGood (Extract h l a) = Unit {0}
TagGood (Extend t a n) = is_extend t ≡ true
TagGood (Ite c t e) = Unit {0}
TagGood (Select a j s k) = Unit {0}
TagGood (Call f w s k) = Unit {0}
TagGood Unknown = Unit {0}

viewed-good : (t a b c d : ℕ) (node : Node) → View t a b c d node → TagGood node
viewed-good t a b c d node (is-var e) = tt
viewed-good t a b c d node (is-const e) = tt
viewed-good t a b c d node (is-extract e) = tt
viewed-good t a b c d node (is-extend e) = e
viewed-good t a b c d node (is-ite e) = tt
viewed-good t a b c d node (is-un e) = e
viewed-good t a b c d node (is-select e) = tt
viewed-good t a b c d node (is_call e) = tt
viewed-good t a b c d node (is-bin g) = g
viewed-good t a b c d node (is-unknown h) = tt

pub node-good : (r : List ℕ) → TagGood (node_of r)
node-good r = viewed-good _ _ _ _ _ (node_of r) (view_of r)

pub decoded-good : (node : Node) → Decoded node → TagGood node
decoded-good node (r, e) = subst TagGood e (node-good r)

-- the tags of two operands are those that the definition gives two operands
pub two-node : (t : ℕ) → TwoOperands t → BinTag t
two-node t g a b c d =
    rw (
      g.no-var,
      g.no_const,
      g.no-extract,
      g.no-extend,
      g.no-ite,
      g.no-un,
      ne_eqb t t_select (λ z. omega (arith, g.core)),
      ne_eqb t t_call (λ z. omega (arith, g.core)),
      lt-ltb t t_select g.core,
    )

pub node-two : (t : ℕ) → BinTag t → TwoOperands t
node-two t e = subst TagGood (e 0 0 0 0) (viewed-good t 0 0 0 0 _ (view t 0 0 0 0))

-- a variable has a variable's tag and its width in the first field
pub var-viewed : (t a b c d w : ℕ) → View t a b c d (Var w) → (t ≡ t_var) × (a ≡ w)
var-viewed t a b c d w (is-var e) = (e, refl)
