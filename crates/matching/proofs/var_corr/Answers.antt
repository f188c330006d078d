-- Both tests in the definition's order; the class is written where both pass. Assumes nothing.
use mathlib.Core.Path.{refl, sym, ◌∙◌}
use borrow.Author.Tests.{eq-eqb, ne_eqb}
use Rattle.lists.specs.Tests.{all}
use Rattle.lowering.specs.Matching.{var_matches}
use Rattle.matching.proofs.var_corr.Goals as goal

pub returns-then-not-row_is_var : goal.returns-then-not-row_is_var
unfolding var_matches all
returns-then-not-row_is_var c = record {
  test = rw (sym (rw c.row.ensures.row at c.row_is_var.ensures.test) ∙ c.if-not-row_is_var.true);
  list = refl;
}

pub returns-then-cls-r-ne0 : goal.returns-then-cls-r-ne0
unfolding var_matches all
returns-then-cls-r-ne0 c = record {
  test = rw (
    sym (rw c.row.ensures.row at c.row_is_var.ensures.test) ∙ c.if-not-row_is_var.false,
    ne_eqb _ _ c.if-cls-r-ne0.true,
  );
  list = refl;
}

pub returns : goal.returns
unfolding var_matches all
returns c = record {
  test = rw (
    sym (rw c.row.ensures.row at c.row_is_var.ensures.test) ∙ c.if-not-row_is_var.false,
    eq-eqb _ _ c.if-cls-r-ne0.false,
  );
  list = refl;
}
