-- The image's words against those of the mapped row. Assumes nothing.
use mathlib.Core.Path.{◌∙◌}
use Rattle.lowering.specs.Images.{row_is}
use Rattle.lowering.specs.Matching.{node_matches}
use Rattle.matching.proofs.node_corr.Goals as goal

pub returns : goal.returns
unfolding node_matches row_is
returns c = record { test = c.node_eq.ensures.same ∙ rw (c.row.ensures.row, c.map_node.ensures.row) }
