-- The row is decoded, and ready as its node is. Assumes nothing.
use mathlib.Core.Path.{◌∙◌}
use Rattle.evaluate.proofs.row_value.Goals as goal

pub node_value-requires : goal.node_value-requires
node_value-requires c = rw (c.decode-node.ensures.node, c.row.ensures.row) c.requires.ready

pub returns : goal.returns
returns c = record { value = c.node_value.ensures.value ∙ rw (c.decode-node.ensures.node, c.row.ensures.row) }
