-- No two constants, or the test of their widths and bits. Assumes nothing.
use mathlib.Core.Path.{◌∙◌, sym}
use Rattle.images.proofs.Constants.{same-no}
use Rattle.images.proofs.same_const.Goals as goal

pub returns-else-both_const : goal.returns-else-both_const
returns-else-both_const c = record { test = c.if-both_const.false ∙ same-no _ _ _ _ (sym c.both_const.ensures.test ∙ c.if-both_const.false) }
