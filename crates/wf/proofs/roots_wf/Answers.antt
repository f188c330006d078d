-- The root at hand is the first bad one, or one more that is not. Assumes nothing.
use mathlib.Core.Path.{◌∙◌, sym, ap}
use mathlib.Core.Bool.{not}
use native.Mathlib.Omega.{arith}
use borrow.Author.Count.{below_more}
use Rattle.lists.proofs.First.{first-at, first-none}
use Rattle.wf.specs.Widths.{root_bad}
use Rattle.wf.proofs.roots_wf.Goals as goal

pub returns-then-not-has_width : goal.returns-then-not-has_width
returns-then-not-has_width c = record {
  position =
      let s = c.args in
      let bad = ap not (sym c.has_width.ensures.test ∙ c.if-not-has_width.true) in
      sym (first-at (root_bad s.ws.now s.roots.now) _ _ c.loop-r-test.true bad c.loop-r.invariant);
}

pub loop-r-preserved : goal.loop-r-preserved
loop-r-preserved c = below_more _ _ c.loop-r.invariant (ap not (sym c.has_width.ensures.test ∙ c.if-not-has_width.false))

pub returns : goal.returns
returns c = record {
  position =
      let s = c.args in
      sym (first-none (root_bad s.ws.now s.roots.now) _ (λ j h. c.loop-r.invariant j (omega arith)));
}
