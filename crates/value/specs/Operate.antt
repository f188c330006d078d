-- The core operators as one: a row's value is its operator applied to its operands' values and widths (01, 'Meaning').
-- An operator is a tag with its parameters; the table has one line for each tag. Assumes nothing.
use Rattle.std.specs.Prelude.{ℕ, ◌+◌, cond, List, [], ◌∷◌, eqb, get_or}
use Rattle.bv.specs.Bv.{bvnot, bvand, bvor, bvxor, bvneg, bvadd, bvsub, bvmul, bvudiv, bvurem, bvsdiv, bvsrem, bvshl, bvlshr, bvashr, bvrotr}
use Rattle.bv.specs.Bv.{bvrotl, concat, extract, zero-extend, sign-extend, equal, distinct, bvult, bvule, bvugt, bvuge, bvslt, bvsle, bvsgt, bvsge}
use Rattle.bv.specs.Bv.{ite}
use Rattle.bv.specs.Bits.{of_bits}
use Rattle.rows.specs.declared.Node.{Node}
use Rattle.rows.specs.declared.Node.TheVariants.{Var, Const, Un, Bin, Extract, Extend, Ite, Select, Call, Unknown}
use Rattle.rows.specs.Tags.{t_var, t_const, t_extract, t_ite, t_select, t_call, is_un, is_extend}
use Rattle.rules.specs.Rule.{un_width, bin_width, extract_width, ite_width}
use Rattle.value.specs.Val.{Val, val, wid, nat, arg}

-- operators of one, two and three operands, over the first operand's width
abbrev pub un : (ℕ → ℕ → ℕ) → List ℕ → List Val → ℕ
un f ps vs = f (wid (arg vs 0)) (nat (arg vs 0))

abbrev pub bin : (ℕ → ℕ → ℕ → ℕ) → List ℕ → List Val → ℕ
bin f ps vs = f (wid (arg vs 0)) (nat (arg vs 0)) (nat (arg vs 1))

abbrev pub test : (ℕ → ℕ → ℕ) → List ℕ → List Val → ℕ
test f ps vs = f (nat (arg vs 0)) (nat (arg vs 1))

-- one line a tag, 0 to 36
abbrev pub numbers : List (List ℕ → List Val → ℕ)
numbers =
    -- 0 Var: a row's own value is given, not computed
    (λ ps vs. 0)
    -- 1 Const: its parameters are its width and its number
    ∷ (λ ps vs. get_or ps 1 0)
    -- 2 Add
    ∷ bin bvadd
    -- 3 Sub
    ∷ bin bvsub
    -- 4 Mul
    ∷ bin bvmul
    -- 5 Udiv
    ∷ bin bvudiv
    -- 6 Urem
    ∷ bin bvurem
    -- 7 And
    ∷ bin bvand
    -- 8 Or
    ∷ bin bvor
    -- 9 Xor
    ∷ bin bvxor
    -- 10 Shl
    ∷ bin bvshl
    -- 11 Lshr
    ∷ bin bvlshr
    -- 12 Ashr
    ∷ bin bvashr
    -- 13 Rotr
    ∷ bin bvrotr
    -- 14 Extract(high, low)
    ∷ (λ ps vs. extract (get_or ps 0 0) (get_or ps 1 0) (nat (arg vs 0)))
    -- 15 Concat
    ∷ (λ ps vs. concat (wid (arg vs 1)) (nat (arg vs 0)) (nat (arg vs 1)))
    -- 16 ZeroExt(n)
    ∷ un zero-extend
    -- 17 SignExt(n)
    ∷ (λ ps vs. sign-extend (wid (arg vs 0)) (get_or ps 0 0) (nat (arg vs 0)))
    -- 18 Ite
    ∷ (λ ps vs. ite (nat (arg vs 0)) (nat (arg vs 1)) (nat (arg vs 2)))
    -- 19 Eq
    ∷ test equal
    -- 20 Ne
    ∷ test distinct
    -- 21 Ult
    ∷ test bvult
    -- 22 Ule
    ∷ test bvule
    -- 23 Ugt
    ∷ test bvugt
    -- 24 Uge
    ∷ test bvuge
    -- 25 Slt
    ∷ bin bvslt
    -- 26 Sle
    ∷ bin bvsle
    -- 27 Sgt
    ∷ bin bvsgt
    -- 28 Sge
    ∷ bin bvsge
    -- 29 Not
    ∷ un bvnot
    -- 30 BoolAnd
    ∷ bin bvand
    -- 31 BoolOr
    ∷ bin bvor
    -- 32 BvNot
    ∷ un bvnot
    -- 33 Neg
    ∷ un bvneg
    -- 34 Rotl
    ∷ bin bvrotl
    -- 35 Sdiv
    ∷ bin bvsdiv
    -- 36 Srem
    ∷ bin bvsrem
    ∷ []

abbrev pub op_number : ℕ → List ℕ → List Val → ℕ
op_number t = get_or numbers t (λ ps vs. 0)

-- the width, by the rules of well-formedness, over the operands' widths
abbrev pub op_width : ℕ → List ℕ → (ℕ → ℕ) → ℕ
op_width t ps w =
    cond (eqb t t_const) (get_or ps 0 0)
    (cond (is_un t) (un_width t (w 0))
    (cond (eqb t t_extract) (extract_width (get_or ps 0 0) (get_or ps 1 0) (w 0))
    (cond (is_extend t) (w 0 + get_or ps 0 0) (cond (eqb t t_ite) (ite_width (w 0) (w 1) (w 2)) (bin_width t (w 0) (w 1))))))

-- a tag and parameters applied to values
unfoldable pub operate : ℕ → List ℕ → List Val → Val
operate t ps vs = val (op_width t ps (λ j. wid (arg vs j))) (op_number t ps vs)

-- the tag of a node, and its parameters: what of its fields is no operand. A constant's are its width and the number of its bits
abbrev pub tag_of : Node → ℕ
tag_of (Var w) = t_var
tag_of (Const s w) = t_const
tag_of (Un t a) = t
tag_of (Bin t a b) = t
tag_of (Extract h l a) = t_extract
tag_of (Extend t a n) = t
tag_of (Ite c t e) = t_ite
tag_of (Select a j s k) = t_select
tag_of (Call f w s k) = t_call
tag_of Unknown = 39

-- "lowest first": w bits of a list from s on, as a number
abbrev pub const_number : List ℕ → ℕ → ℕ → ℕ
const_number bits s w = of_bits w (λ k. get_or bits (s + k) 0)

abbrev pub parameters : List ℕ → Node → List ℕ
parameters bits (Var w) = w ∷ []
parameters bits (Const s w) = w ∷ const_number bits s w ∷ []
parameters bits (Un t a) = []
parameters bits (Bin t a b) = []
parameters bits (Extract h l a) = h ∷ l ∷ []
parameters bits (Extend t a n) = n ∷ []
parameters bits (Ite c t e) = []
parameters bits (Select a j s k) = []
parameters bits (Call f w s k) = []
parameters bits Unknown = []
