-- The comparison of two constants, at the image's words. Assumes nothing.
use mathlib.Core.Path.{◌∙◌}
use Rattle.matching.proofs.const_corr.Goals as goal

pub same_const-requires : goal.same_const-requires
same_const-requires c = (
  c.requires.1,
  rw c.row.ensures.row
      (c.requires.2 _ c.requires.0),
)

pub returns : goal.returns
returns c = record { test = c.same_const.ensures.test ∙ rw c.row.ensures.row }
