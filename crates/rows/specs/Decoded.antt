-- Nodes that some row has, and tags of two operands.
-- Inner: contracts within the code cite it; no answer's definition does. Assumes nothing.
use Rattle.std.specs.Prelude.{ℕ, ◌≡◌, List}
use Rattle.rows.specs.declared.Node.{Node}
use Rattle.rows.specs.declared.Node.TheVariants.{Bin}
use Rattle.rows.specs.Node.{node_from, node_of}

abbrev pub Decoded : Node → Type 0
Decoded node = (r : List ℕ) × (node_of r ≡ node)

-- whatever the fields, the node has two operands
abbrev pub BinTag : ℕ → Type 0
BinTag t = (a b c d : ℕ) → node_from t a b c d ≡ Bin t a b
