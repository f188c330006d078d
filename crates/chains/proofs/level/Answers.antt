-- The definition's four tests in its order. Assumes nothing.
use mathlib.Core.Path.{◌∙◌, sym}
use borrow.Author.Tests.{lt-ltb, le-ltb, eq-eqb, ne_eqb}
use Rattle.lists.specs.Tests.{all}
use Rattle.lowering.specs.Matching.{is_level}
use Rattle.chains.proofs.level.Goals as goal

pub returns-then-row_count-r : goal.returns-then-row_count-r
unfolding is_level all
returns-then-row_count-r c = record { step = rw (le-ltb _ _ (rw c.row_count.ensures.count at c.if-row_count-r.true)) }

pub returns-then-d-ne-ITE : goal.returns-then-d-ne-ITE
unfolding is_level all
returns-then-d-ne-ITE c = record {
  step =
      rw (
        lt-ltb _ _ (rw c.row_count.ensures.count at c.if-row_count-r.false),
        ne_eqb _ _ (rw c.row-d.ensures.row at c.if-d-ne-ITE.true),
      );
}

pub returns-then-d-v : goal.returns-then-d-v
unfolding is_level all
returns-then-d-v c = record {
  step =
      rw (
        lt-ltb _ _ (rw c.row_count.ensures.count at c.if-row_count-r.false),
        eq-eqb _ _ (rw c.row-d.ensures.row at c.if-d-ne-ITE.false),
        ne_eqb _ _ (rw c.row-d.ensures.row at c.if-d-v.true),
      );
}

pub returns-then-not-is_eq : goal.returns-then-not-is_eq
unfolding is_level all
returns-then-not-is_eq c = record {
  step =
      rw (
        lt-ltb _ _
            (rw c.row_count.ensures.count at c.if-row_count-r.false),
        eq-eqb _ _ (rw c.row-d.ensures.row at c.if-d-ne-ITE.false),
        eq-eqb _ _ (rw c.row-d.ensures.row at c.if-d-v.false),
        sym (rw c.row-d.ensures.row at c.is_eq.ensures.test) ∙ c.if-not-is_eq.true,
      );
}

pub returns : goal.returns
unfolding is_level all
returns c = record {
  step =
      rw (
        lt-ltb _ _
            (rw c.row_count.ensures.count at c.if-row_count-r.false),
        eq-eqb _ _ (rw c.row-d.ensures.row at c.if-d-ne-ITE.false),
        eq-eqb _ _ (rw c.row-d.ensures.row at c.if-d-v.false),
        sym (rw c.row-d.ensures.row at c.is_eq.ensures.test) ∙ c.if-not-is_eq.false,
        c.row-d.ensures.row,
      );
}
