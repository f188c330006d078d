-- The row is compared with the words of Eq(a, b). Assumes nothing.
use Rattle.lowering.specs.Images.{row_is}
use Rattle.images.proofs.row_is_eq.Goals as goal

pub returns : goal.returns
unfolding row_is
returns c = record { test = c.node_eq.ensures.same }
