-- The arguments, then the key; where the arguments lie in their list, so do those of the entries up to k. Assumes nothing.
use mathlib.Core.Path.{◌∙◌, sym, ap}
use mathlib.Core.Bool.{not}
use borrow.Author.Count.{below_more}
use borrow.Author.Tests.{leb-true}
use Rattle.lists.proofs.Tests.{all_true}
use Rattle.keys.proofs.Order.{fails, passes, two, alone, not-not}
use Rattle.entries.proofs.call_own.Goals as goal

pub returns-then-not-args_in_range : goal.returns-then-not-args_in_range
returns-then-not-args_in_range c = record { test = fails _ (sym c.args_in_range.ensures.test ∙ c.if-not-args_in_range.true) ∙ two _ _ _ }

pub call_dup-requires : goal.call_dup-requires
call_dup-requires c =
    let (a, _) = all_true _ (sym c.args_in_range.ensures.test ∙ c.if-not-args_in_range.false) in
    record { k_in_bounds = c.requires.k_in_bounds; args_inside = below_more _ _ c.requires.args_inside (leb-true _ _ a) }

pub returns : goal.returns
returns c = record {
  test =
      ap not c.call_dup.ensures.test ∙ not-not _ ∙ alone _
      ∙ passes _ (sym c.args_in_range.ensures.test ∙ c.if-not-args_in_range.false) ∙ two _ _ _;
}
