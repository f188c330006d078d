-- The row, its test, its class: the definition's order. Assumes nothing.
use mathlib.Core.Path.{◌∙◌, sym}
use borrow.Author.Tests.{lt-ltb, le-ltb}
use Rattle.keys.proofs.Order.{fails, passes, alone}
use Rattle.entries.proofs.free_var.Goals as goal

pub returns-then-cls-v : goal.returns-then-cls-v
returns-then-cls-v c = record { test = fails _ (le-ltb _ _ (rw c.requires at c.if-cls-v.true)) }

pub returns-then-not-is_var : goal.returns-then-not-is_var
returns-then-not-is_var c = record {
  test =
      fails _ (rw c.row.ensures.row at (sym c.is_var.ensures.test ∙ c.if-not-is_var.true))
      ∙ passes _ (lt-ltb _ _ (rw c.requires at c.if-cls-v.false));
}

pub returns : goal.returns
returns c = record {
  test =
      alone _
      ∙ passes _ (rw c.row.ensures.row at (sym c.is_var.ensures.test ∙ c.if-not-is_var.false))
      ∙ passes _ (lt-ltb _ _ (rw c.requires at c.if-cls-v.false));
}
