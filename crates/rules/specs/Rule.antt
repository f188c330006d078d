-- When a row is well formed against the widths before it, and its width (01, 'Well-formedness': "Rules are those of `node_wf` and `node_width`;
-- operands are earlier rows"). A width of 0 stands for an ill-formed row, so the rules need not ask that an operand's width is above 0. Assumes
-- nothing.
use Rattle.std.specs.Prelude.{ℕ, ◌+◌, ◌*◌, ◌-◌, Bool, true, false, cond, not, List, [], ◌∷◌, eqb, ltb, leb, length, get_or}
use Rattle.lists.specs.First.{none}
use Rattle.sorts.specs.Sorts.{Sorts}
use Rattle.rows.specs.declared.Node.{Node}
use Rattle.rows.specs.declared.Node.TheVariants.{Var, Const, Un, Bin, Extract, Extend, Ite, Select, Call, Unknown}
use Rattle.rows.specs.Tags.{t_concat, t_not, is_bool, is_compare}
use Rattle.rows.specs.Node.{operands}

-- "A row whose width would pass 4,096 is ill-formed" (02, 2.8)
abbrev pub ceiling : ℕ
ceiling = 4096

abbrev pub capped : ℕ → ℕ
capped w = cond (leb w ceiling) w 0

-- w where the two widths are one
abbrev pub same : ℕ → ℕ → ℕ → ℕ
same a b w = cond (eqb a b) w 0

-- the bits of a constant lie in the bit list
abbrev pub const_width : ℕ → ℕ → ℕ → ℕ
const_width nbits s w = cond (leb (s + w) nbits) w 0

-- Not takes one bit; BvNot and Neg any width
abbrev pub un_width : ℕ → ℕ → ℕ
un_width t a = cond (eqb t t_not) (same a 1 1) a

-- Concat adds; BoolAnd and BoolOr take one bit; the rest take one width: comparisons give one bit, the others that width
abbrev pub bin_width : ℕ → ℕ → ℕ → ℕ
bin_width t a b = cond (eqb t t_concat) (a + b) (cond (is_bool t) (same a 1 (same b 1 1)) (same a b (cond (is_compare t) 1 a)))

abbrev pub extract_width : ℕ → ℕ → ℕ → ℕ
extract_width high low a = cond (leb low high) (cond (ltb high a) (high - low + 1) 0) 0

abbrev pub ite_width : ℕ → ℕ → ℕ → ℕ
ite_width c t e = same c 1 (same t e t)

-- row a is earlier and has width w
abbrev pub has_width : List ℕ → ℕ → ℕ → Bool
has_width ws a w = cond (ltb a (length ws)) (eqb (get_or ws a 0) w) false

-- a pair of a Select and an argument of a Call that break the rule
abbrev pub pair_bad : ℕ → ℕ → List ℕ → List ℕ → ℕ → ℕ → Bool
pair_bad iw cw ws side s l =
    cond (has_width ws (get_or side (s + 2 * l) 0) iw) (not (has_width ws (get_or side (s + 2 * l + 1) 0) cw)) true

abbrev pub arg_bad : ℕ → List ℕ → ℕ → ℕ → Bool
arg_bad n side s l = leb n (get_or side (s + l) 0)

-- k entries of some words each from s on lie in a side list, and none is bad. "With count 0 any start passes in a source row"
abbrev pub entries_good : ℕ → (ℕ → Bool) → List ℕ → ℕ → ℕ → Bool
entries_good words bad side s k = cond (eqb k 0) true (cond (leb (s + words * k) (length side)) (none bad k) false)

abbrev pub chain_good : ℕ → ℕ → List ℕ → List ℕ → ℕ → ℕ → Bool
chain_good iw cw ws side s k = entries_good 2 (pair_bad iw cw ws side s) side s k

-- "Call needs width above 0 and earlier argument rows"
abbrev pub args_good : List ℕ → List ℕ → ℕ → ℕ → Bool
args_good ws side s k = entries_good 1 (arg_bad (length ws) side s) side s k

-- "Select needs an index of width [the array's] and, per pair in the side list, an index row of [that width] and a value row of width [its cell's];
-- its width is [that]"
abbrev pub select_width : ℕ → ℕ → List ℕ → List ℕ → ℕ → ℕ → ℕ → ℕ
select_width iw cw ws side j s k = cond (eqb (get_or ws j 0) iw) (cond (chain_good iw cw ws side s k) cw 0) 0

-- the rule of a node over the arrays' sorts and the widths of earlier rows
abbrev pub rule : Sorts → ℕ → List ℕ → List ℕ → Node → ℕ
rule σ nbits side ws (Var w) = w
rule σ nbits side ws (Const s w) = const_width nbits s w
rule σ nbits side ws (Un t a) = un_width t (get_or ws a 0)
rule σ nbits side ws (Bin t a b) = bin_width t (get_or ws a 0) (get_or ws b 0)
rule σ nbits side ws (Extract high low a) = extract_width high low (get_or ws a 0)
rule σ nbits side ws (Extend t a n) = get_or ws a 0 + n
rule σ nbits side ws (Ite c t e) = ite_width (get_or ws c 0) (get_or ws t 0) (get_or ws e 0)
rule σ nbits side ws (Select array j s k) = select_width (σ.index array) (σ.cell array) ws side j s k
rule σ nbits side ws (Call f w s k) = cond (args_good ws side s k) w 0
rule σ nbits side ws Unknown = 0

-- every operand is an earlier row
abbrev pub earlier : List ℕ → ℕ → Bool
earlier [] n = true
earlier (a ∷ more) n = cond (ltb a n) (earlier more n) false

-- the width of a node after rows of widths ws, or 0
abbrev pub node_width : Sorts → ℕ → List ℕ → List ℕ → Node → ℕ
node_width σ nbits side ws node = cond (earlier (operands node) (length ws)) (capped (rule σ nbits side ws node)) 0
