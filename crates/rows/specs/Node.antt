-- What a row's five words say, by shape; a shape of several tags keeps its tag (01, 'Rows'). Assumes nothing.
use Rattle.std.specs.Prelude.{ℕ, Bool, false, cond, List, [], ◌∷◌, eqb, ltb, get_or}
use Rattle.rows.specs.declared.Node.{Node}
use Rattle.rows.specs.declared.Node.TheVariants.{Var, Const, Un, Bin, Extract, Extend, Ite, Select, Call, Unknown}
use Rattle.rows.specs.Tags.{t_var, t_const, t_extract, t_ite, t_select, t_call, is_un, is_extend}

-- the node of a tag and four fields; every core tag without a shape of its own has two operands
abbrev pub node_from : ℕ → ℕ → ℕ → ℕ → ℕ → Node
node_from t a b c d =
    cond (eqb t t_var) (Var a)
    (cond (eqb t t_const) (Const a b)
    (cond (eqb t t_extract) (Extract a b c)
    (cond (is_extend t) (Extend t a b)
    (cond (eqb t t_ite) (Ite a b c)
    (cond (is_un t) (Un t a)
    (cond (eqb t t_select) (Select a b c d)
    (cond (eqb t t_call) (Call a b c d)
    (cond (ltb t t_select) (Bin t a b) Unknown))))))))

abbrev pub node_of : List ℕ → Node
node_of r = node_from (get_or r 0 0) (get_or r 1 0) (get_or r 2 0) (get_or r 3 0) (get_or r 4 0)

-- the rows that a node names as operands, side lists aside, in their order
abbrev pub operands : Node → List ℕ
operands (Var w) = []
operands (Const s w) = []
operands (Un t a) = a ∷ []
operands (Bin t a b) = a ∷ b ∷ []
operands (Extract h l a) = a ∷ []
operands (Extend t a n) = a ∷ []
operands (Ite c t e) = c ∷ t ∷ e ∷ []
operands (Select a j s k) = j ∷ []
operands (Call f w s k) = []
operands Unknown = []

-- two rows are one: tag and fields agree
abbrev pub row_eq : List ℕ → List ℕ → Bool
row_eq r s =
    cond (eqb (get_or r 0 0) (get_or s 0 0))
    (cond (eqb (get_or r 1 0) (get_or s 1 0))
    (cond (eqb (get_or r 2 0) (get_or s 2 0))
    (cond (eqb (get_or r 3 0) (get_or s 3 0)) (eqb (get_or r 4 0) (get_or s 4 0)) false)
    false)
    false)
    false
