-- No two constants, or the test of their widths and bits turned round. Assumes nothing.
use mathlib.Core.Path.{◌∙◌, sym, ap}
use mathlib.Core.Bool.{not}
use Rattle.images.proofs.Constants.{unequal-no, unequal-is}
use Rattle.images.proofs.unequal_const.Goals as goal

pub returns-then-both_const : goal.returns-then-both_const
returns-then-both_const c = record {
  test = ap not c.same_bits.ensures.test ∙ unequal-is _ _ _ (sym c.both_const.ensures.test ∙ c.if-both_const.true);
}

pub returns-else-both_const : goal.returns-else-both_const
returns-else-both_const c = record { test = c.if-both_const.false ∙ unequal-no _ _ _ (sym c.both_const.ensures.test ∙ c.if-both_const.false) }
