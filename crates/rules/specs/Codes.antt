-- The codes by which a line can be given (src/lines.rt). proofs/Codes says what the rules give at each code.
-- Inner: contracts within the code cite it; no answer's definition does. Assumes nothing.
use Rattle.std.specs.Prelude.{ℕ, [], ◌∷◌, get_or}
use Rattle.rules.specs.declared.lines.Join.{Join}
use Rattle.rules.specs.declared.lines.Join.TheVariants as join
use Rattle.rules.specs.declared.lines.Operands.{Operands}
use Rattle.rules.specs.declared.lines.Operands.TheVariants as operand
use Rattle.rules.specs.declared.lines.WidthFrom.{WidthFrom}
use Rattle.rules.specs.declared.lines.WidthFrom.TheVariants as source

-- how many operands, side lists aside, and where they stand; a code past them is read as three
abbrev pub operands_of : ℕ → Operands
operands_of c = get_or (operand.Empty ∷ operand.Field2 ∷ operand.Field1 ∷ operand.Field3 ∷ operand.Two ∷ operand.Three ∷ []) c operand.Three

-- how their widths join, and where the width comes from; a code past them is none
abbrev pub join_of : ℕ → Join
join_of c =
    get_or
    (join.Any ∷ join.Equal ∷ join.InBits ∷ join.OneBit ∷ join.Part ∷ join.Choice ∷ join.Chain ∷ join.Arguments ∷ [])
    c
    join.Other

abbrev pub source_of : ℕ → WidthFrom
source_of c =
    get_or
    (source.One ∷ source.First ∷ source.Second ∷ source.Sum ∷ source.Extended ∷ source.Field1 ∷ source.Field2 ∷ source.Part ∷ source.Cell ∷ [])
    c
    source.Other
