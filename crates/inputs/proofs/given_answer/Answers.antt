-- 21, 22 and 23 in the definition's order. Assumes nothing.
use mathlib.Core.Path.{sym}
use borrow.Author.Tests.{lt-ltb, le-ltb, eq-eqb, ne_eqb}
use Rattle.inputs.proofs.given_answer.Goals as goal

pub returns-then-wide-n : goal.returns-then-wide-n
returns-then-wide-n c = record {
  answer =
      rw (
        sym c.requires,
        c.too_wide-wide.ensures.row,
        lt-ltb _ _ (rw c.too_wide-wide.ensures.row at c.if-wide-n.true),
      );
}

pub returns-then-given-n : goal.returns-then-given-n
returns-then-given-n c = record {
  answer =
      rw (
        sym c.requires,
        le-ltb _ _ (rw c.too_wide-wide.ensures.row at c.if-wide-n.false),
        ne_eqb _ _ c.if-given-n.true,
      );
}

pub returns-then-bad-n : goal.returns-then-bad-n
returns-then-bad-n c = record {
  answer =
      let bad = rw (sym c.requires) at c.bad_word-bad.ensures.row in
      rw (
        sym c.requires,
        le-ltb _ _ (rw c.too_wide-wide.ensures.row at c.if-wide-n.false),
        eq-eqb _ _ c.if-given-n.false,
        bad,
        lt-ltb _ _ (rw bad at c.if-bad-n.true),
      );
}

pub returns : goal.returns
returns c = record {
  answer =
      let bad = rw (sym c.requires) at c.bad_word-bad.ensures.row in
      rw (
        sym c.requires,
        le-ltb _ _ (rw c.too_wide-wide.ensures.row at c.if-wide-n.false),
        eq-eqb _ _ c.if-given-n.false,
        le-ltb _ _ (rw bad at c.if-bad-n.false),
      );
}
