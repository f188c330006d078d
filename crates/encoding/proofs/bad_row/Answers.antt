-- The row at hand is the first bad one, or one more that is not. Assumes nothing.
use mathlib.Core.Path.{◌∙◌, sym, ap}
use mathlib.Core.Bool.{not}
use native.Mathlib.Omega.{arith}
use borrow.Author.Count.{below_more}
use Rattle.lists.proofs.First.{first-at, first-none}
use Rattle.encoding.specs.Encoding.{row_bad}
use Rattle.encoding.proofs.bad_row.Goals as goal

pub returns-then-not-row_good : goal.returns-then-not-row_good
returns-then-not-row_good c = record {
  row =
      let s = c.args in
      let low = rw c.row_count-n.ensures.count at c.loop-i-test.true in
      let bad = ap not (rw c.row.ensures.row at (rw c.row_good.ensures.test at c.if-not-row_good.true)) in
      sym (first-at (row_bad s.graph s.g.now) _ _ low bad c.loop-i.invariant);
}

pub loop-i-preserved : goal.loop-i-preserved
loop-i-preserved c =
    below_more _ _ c.loop-i.invariant (ap not (rw c.row.ensures.row at (rw c.row_good.ensures.test at c.if-not-row_good.false)))

pub returns : goal.returns
returns c = record {
  row =
      let s = c.args in
      let e = c.row_count-n.ensures.count in
      e ∙ sym (first-none (row_bad s.graph s.g.now) _ (λ j h. c.loop-i.invariant j (omega (arith, e, c.loop-i-test.false))));
}
