-- A row past the target is no equality; else the row is read and compared. Assumes nothing.
use mathlib.Core.Path.{◌∙◌, sym}
use borrow.Author.Tests.{le-ltb}
use Rattle.images.proofs.Equality.{eq-out, eq-in}
use Rattle.images.proofs.is_eq.Goals as goal

pub returns-then-r-row_count : goal.returns-then-r-row_count
returns-then-r-row_count c = record {
  test =
      c.row_is_eq.ensures.test
      ∙ rw c.row.ensures.row
      (sym (eq-in _ _ _ _ (rw c.row_count.ensures.count at c.if-r-row_count.true)));
}

pub returns-else-r-row_count : goal.returns-else-r-row_count
returns-else-r-row_count c = record {
  test = le-ltb _ _ c.if-r-row_count.false ∙ sym (eq-out _ _ _ _ (rw c.row_count.ensures.count at c.if-r-row_count.false));
}
