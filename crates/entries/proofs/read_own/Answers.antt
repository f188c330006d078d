-- The index, then the key. Assumes nothing.
use mathlib.Core.Path.{◌∙◌, sym, ap}
use mathlib.Core.Bool.{not}
use Rattle.keys.proofs.Order.{fails, passes, alone, not-not}
use Rattle.entries.proofs.read_own.Goals as goal

pub returns-then-not-has_width : goal.returns-then-not-has_width
returns-then-not-has_width c = record { test = fails _ (sym c.has_width.ensures.test ∙ c.if-not-has_width.true) }

pub returns : goal.returns
returns c = record {
  test =
      ap not c.read_dup.ensures.test ∙ not-not _ ∙ alone _
      ∙ passes _ (sym c.has_width.ensures.test ∙ c.if-not-has_width.false);
}
