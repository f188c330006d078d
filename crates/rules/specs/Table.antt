-- Operand facts from a table with a line for each of the 39 tags (02, 2.2: "how many operands (side lists aside), which rule joins their
-- widths, where the result's width comes from"), and the width that a line gives a row. src/lines.rt has the same lines.
-- proofs/Table says that each line is 01's rule for its tag.
-- Inner: contracts within the code cite it; no answer's definition does. Assumes nothing.
use Rattle.std.specs.Prelude.{ℕ, ◌+◌, ◌-◌, Bool, true, false, cond, List, [], ◌∷◌, ltb, leb, length, get_or}
use Rattle.rows.specs.Row.{MAX}
use Rattle.sorts.specs.Sorts.{Sorts}
use Rattle.encoding.specs.Encoding.{fields_good}
use Rattle.rules.specs.declared.lines.Join.{Join}
use Rattle.rules.specs.declared.lines.Join.TheVariants as join
use Rattle.rules.specs.declared.lines.Line.{Line}
use Rattle.rules.specs.declared.lines.Operands.{Operands}
use Rattle.rules.specs.declared.lines.Operands.TheVariants as operand
use Rattle.rules.specs.declared.lines.WidthFrom.{WidthFrom}
use Rattle.rules.specs.declared.lines.WidthFrom.TheVariants as source
use Rattle.rules.specs.Rule.{same, chain_good, args_good, earlier}

abbrev pub line : Operands → Join → WidthFrom → Line
line operands rule source = record { operands = operands; join = rule; source = source }

-- one line a tag, 0 to 38
abbrev pub table : List Line
table =
    line operand.Empty join.Any source.Field1  -- 0 Var
    ∷ line operand.Empty join.InBits source.Field2  -- 1 Const
    ∷ line operand.Two join.Equal source.First  -- 2 Add
    ∷ line operand.Two join.Equal source.First  -- 3 Sub
    ∷ line operand.Two join.Equal source.First  -- 4 Mul
    ∷ line operand.Two join.Equal source.First  -- 5 Udiv
    ∷ line operand.Two join.Equal source.First  -- 6 Urem
    ∷ line operand.Two join.Equal source.First  -- 7 And
    ∷ line operand.Two join.Equal source.First  -- 8 Or
    ∷ line operand.Two join.Equal source.First  -- 9 Xor
    ∷ line operand.Two join.Equal source.First  -- 10 Shl
    ∷ line operand.Two join.Equal source.First  -- 11 Lshr
    ∷ line operand.Two join.Equal source.First  -- 12 Ashr
    ∷ line operand.Two join.Equal source.First  -- 13 Rotr
    ∷ line operand.Field3 join.Part source.Part  -- 14 Extract
    ∷ line operand.Two join.Any source.Sum  -- 15 Concat
    ∷ line operand.Field1 join.Any source.Extended  -- 16 ZeroExt
    ∷ line operand.Field1 join.Any source.Extended  -- 17 SignExt
    ∷ line operand.Three join.Choice source.Second  -- 18 Ite
    ∷ line operand.Two join.Equal source.One  -- 19 Eq
    ∷ line operand.Two join.Equal source.One  -- 20 Ne
    ∷ line operand.Two join.Equal source.One  -- 21 Ult
    ∷ line operand.Two join.Equal source.One  -- 22 Ule
    ∷ line operand.Two join.Equal source.One  -- 23 Ugt
    ∷ line operand.Two join.Equal source.One  -- 24 Uge
    ∷ line operand.Two join.Equal source.One  -- 25 Slt
    ∷ line operand.Two join.Equal source.One  -- 26 Sle
    ∷ line operand.Two join.Equal source.One  -- 27 Sgt
    ∷ line operand.Two join.Equal source.One  -- 28 Sge
    ∷ line operand.Field1 join.OneBit source.One  -- 29 Not
    ∷ line operand.Two join.OneBit source.One  -- 30 BoolAnd
    ∷ line operand.Two join.OneBit source.One  -- 31 BoolOr
    ∷ line operand.Field1 join.Any source.First  -- 32 BvNot
    ∷ line operand.Field1 join.Any source.First  -- 33 Neg
    ∷ line operand.Two join.Equal source.First  -- 34 Rotl
    ∷ line operand.Two join.Equal source.First  -- 35 Sdiv
    ∷ line operand.Two join.Equal source.First  -- 36 Srem
    ∷ line operand.Field2 join.Chain source.Cell  -- 37 Select
    ∷ line operand.Empty join.Arguments source.Field2  -- 38 Call
    ∷ []

-- the line of a tag that there is
abbrev pub line_at : ℕ → Line
line_at t = get_or table t (line operand.Empty join.Any source.One)

-- w where it is a word, so that a sum of two never wraps; a width past the ceiling is refused behind the line
abbrev pub in_word : ℕ → ℕ
in_word w = cond (leb w MAX) w 0

-- What the rules and the sources are, by the operands that a row has, of widths a, b, c. A rule lets a width w pass or gives 0; a rule
-- or a source that asks for other operands gives 0.
-- One, in field 1
abbrev pub join1 : Join → ℕ → ℕ → ℕ
join1 join.Any a w = w
join1 join.OneBit a w = same a 1 w
join1 _ a w = 0

abbrev pub from1 : WidthFrom → ℕ → ℕ
from1 source.One a = 1
from1 source.First a = a
from1 _ a = 0

-- one, in field 3, and a part of it
abbrev pub in_part : ℕ → ℕ → ℕ → ℕ → ℕ
in_part high low a w = cond (leb low high) (cond (ltb high a) w 0) 0

abbrev pub join_part : Join → ℕ → ℕ → ℕ → ℕ → ℕ
join_part join.Part high low a w = in_part high low a w
join_part _ high low a w = 0

abbrev pub from_part : WidthFrom → ℕ → ℕ → ℕ
from_part source.Part high low = high - low + 1
from_part _ high low = 0

-- one, in field 2, the index of an array of index width iw and cell width cw
abbrev pub join_index : ℕ → ℕ → ℕ → ℕ
join_index iw a w = same a iw w

abbrev pub from_cell : WidthFrom → ℕ → ℕ
from_cell source.Cell cw = cw
from_cell _ cw = 0

-- two, in fields 1 and 2
abbrev pub join2 : Join → ℕ → ℕ → ℕ → ℕ
join2 join.Any a b w = w
join2 join.Equal a b w = same a b w
join2 join.OneBit a b w = same a 1 (same b 1 w)
join2 _ a b w = 0

abbrev pub from2 : WidthFrom → ℕ → ℕ → ℕ
from2 source.Sum a b = a + b
from2 from a b = from1 from a

-- three, in fields 1, 2 and 3
abbrev pub join3 : Join → ℕ → ℕ → ℕ → ℕ → ℕ
join3 join.Choice a b c w = same a 1 (same b c w)
join3 _ a b c w = 0

abbrev pub from3 : WidthFrom → ℕ → ℕ
from3 source.Second b = b
from3 _ b = 0

-- Rows after rows of widths ws, by their operands. Which fields they use is known with these; the others are 0 (16), or there is no width.
-- No operand: by the rule, with a width from field 1 or from field 2
abbrev pub from_field1 : WidthFrom → ℕ → ℕ
from_field1 source.Field1 f1 = f1
from_field1 _ f1 = 0

abbrev pub from_field2 : WidthFrom → ℕ → ℕ
from_field2 source.Field2 f2 = f2
from_field2 _ f2 = 0

abbrev pub row_any : WidthFrom → ℕ → ℕ → ℕ → ℕ → ℕ
row_any from f1 f2 f3 f4 = cond (fields_good 1 f2 f3 f4) (in_word (from_field1 from f1)) 0

abbrev pub row_in_bits : WidthFrom → ℕ → ℕ → ℕ → ℕ → ℕ → ℕ
row_in_bits from nbits f1 f2 f3 f4 = cond (fields_good 2 f2 f3 f4) (in_word (cond (leb (f1 + f2) nbits) (from_field2 from f2) 0)) 0

abbrev pub row_arguments : WidthFrom → List ℕ → List ℕ → ℕ → ℕ → ℕ → ℕ
row_arguments from side ws f2 s k = in_word (cond (args_good ws side s k) (from_field2 from f2) 0)

abbrev pub row0 : Join → WidthFrom → ℕ → List ℕ → List ℕ → ℕ → ℕ → ℕ → ℕ → ℕ
row0 join.Any from nbits side ws f1 f2 f3 f4 = row_any from f1 f2 f3 f4
row0 join.InBits from nbits side ws f1 f2 f3 f4 = row_in_bits from nbits f1 f2 f3 f4
row0 join.Arguments from nbits side ws f1 f2 f3 f4 = row_arguments from side ws f2 f3 f4
row0 _ from nbits side ws f1 f2 f3 f4 = 0

-- one, in field 1; with its extension field 2 is in use
abbrev pub row_one : Join → WidthFrom → List ℕ → ℕ → ℕ → ℕ → ℕ → ℕ
row_one rule from ws x f2 f3 f4 =
    let a = get_or ws x 0 in
    cond (fields_good 1 f2 f3 f4) (cond (earlier (x ∷ []) (length ws)) (in_word (join1 rule a (from1 from a))) 0) 0

abbrev pub row_extended : Join → List ℕ → ℕ → ℕ → ℕ → ℕ → ℕ
row_extended rule ws x f2 f3 f4 =
    let a = get_or ws x 0 in
    cond (fields_good 2 f2 f3 f4) (cond (earlier (x ∷ []) (length ws)) (in_word (join1 rule a (a + f2))) 0) 0

abbrev pub row1 : Join → WidthFrom → List ℕ → ℕ → ℕ → ℕ → ℕ → ℕ
row1 rule source.Extended ws x f2 f3 f4 = row_extended rule ws x f2 f3 f4
row1 rule from ws x f2 f3 f4 = row_one rule from ws x f2 f3 f4

-- one, in field 2, the index of such an array, and k pairs from s on in the side list; all fields are in use
abbrev pub row_chain : Join → WidthFrom → ℕ → ℕ → List ℕ → List ℕ → ℕ → ℕ → ℕ → ℕ
row_chain join.Chain from iw cw side ws x s k =
    let w = cond (chain_good iw cw ws side s k) (from_cell from cw) 0 in
    cond (earlier (x ∷ []) (length ws)) (in_word (join_index iw (get_or ws x 0) w)) 0
row_chain _ from iw cw side ws x s k = 0

-- one, in field 3
abbrev pub row_part : Join → WidthFrom → List ℕ → ℕ → ℕ → ℕ → ℕ → ℕ
row_part rule from ws high low x f4 =
    cond (fields_good 3 low x f4)
    (cond (earlier (x ∷ []) (length ws)) (in_word (join_part rule high low (get_or ws x 0) (from_part from high low))) 0) 0

-- two
abbrev pub row2 : Join → WidthFrom → List ℕ → ℕ → ℕ → ℕ → ℕ → ℕ
row2 rule from ws x y f3 f4 =
    let a = get_or ws x 0 in
    let b = get_or ws y 0 in
    cond (fields_good 2 y f3 f4) (cond (earlier (x ∷ y ∷ []) (length ws)) (in_word (join2 rule a b (from2 from a b))) 0) 0

-- three
abbrev pub row3 : Join → WidthFrom → List ℕ → ℕ → ℕ → ℕ → ℕ → ℕ
row3 rule from ws x y z f4 =
    let b = get_or ws y 0 in
    cond (fields_good 3 y z f4)
    (cond (earlier (x ∷ y ∷ z ∷ []) (length ws)) (in_word (join3 rule (get_or ws x 0) b (get_or ws z 0) (from3 from b))) 0) 0

-- the width that a line gives a row of these fields, or 0: where a side list can be, and where none can
abbrev pub listed_width : Sorts → ℕ → List ℕ → List ℕ → Operands → Join → WidthFrom → ℕ → ℕ → ℕ → ℕ → ℕ
listed_width σ nbits side ws operand.Empty rule from f1 f2 f3 f4 = row0 rule from nbits side ws f1 f2 f3 f4
listed_width σ nbits side ws _ rule from f1 f2 f3 f4 = row_chain rule from (σ.index f1) (σ.cell f1) side ws f2 f3 f4

abbrev pub core_width : List ℕ → Operands → Join → WidthFrom → ℕ → ℕ → ℕ → ℕ → ℕ
core_width ws operand.Field3 rule from f1 f2 f3 f4 = row_part rule from ws f1 f2 f3 f4
core_width ws operand.Field1 rule from f1 f2 f3 f4 = row1 rule from ws f1 f2 f3 f4
core_width ws operand.Two rule from f1 f2 f3 f4 = row2 rule from ws f1 f2 f3 f4
core_width ws _ rule from f1 f2 f3 f4 = row3 rule from ws f1 f2 f3 f4

abbrev pub can_list : Operands → Bool
can_list operand.Empty = true
can_list operand.Field2 = true
can_list _ = false

abbrev pub line_width : Sorts → ℕ → List ℕ → List ℕ → Line → ℕ → ℕ → ℕ → ℕ → ℕ
line_width σ nbits side ws l f1 f2 f3 f4 =
    cond (can_list l.operands) (listed_width σ nbits side ws l.operands l.join l.source f1 f2 f3 f4)
    (core_width ws l.operands l.join l.source f1 f2 f3 f4)
