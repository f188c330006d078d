-- The row is compared with the words of Var(w). Assumes nothing.
use Rattle.lowering.specs.Images.{row_is}
use Rattle.images.proofs.row_is_var.Goals as goal

pub returns : goal.returns
unfolding row_is
returns c = record { test = c.node_eq.ensures.same }
