-- No pair so far is bad: none where the search ends, not none where it stops. Assumes nothing.
use mathlib.Core.Path.{◌∙◌, sym}
use native.Mathlib.Omega.{arith}
use native.Mathlib.Nat.{not-suc-le-zero}
use borrow.Author.Count.{below_more}
use Rattle.lists.proofs.First.{none-yes, none-no}
use Rattle.rules.specs.Rule.{pair_bad}
use Rattle.sides.proofs.pairs_wf.Goals as goal

pub loop-l-init : goal.loop-l-init
loop-l-init c = λ j h. absurd (not-suc-le-zero h)

pub returns-then-pair_bad : goal.returns-then-pair_bad
returns-then-pair_bad c = record {
  test =
      let s = c.args in
      sym (none-no (pair_bad s.iw s.cw s.ws.now s.side.now s.s) _ _ c.loop-l-test.true
      (sym c.pair_bad.ensures.test ∙ c.if-pair_bad.true) c.loop-l.invariant);
}

pub loop-l-preserved : goal.loop-l-preserved
loop-l-preserved c = below_more _ _ c.loop-l.invariant (sym c.pair_bad.ensures.test ∙ c.if-pair_bad.false)

pub returns : goal.returns
returns c = record {
  test =
      let s = c.args in
      sym (none-yes (pair_bad s.iw s.cw s.ws.now s.side.now s.s) _ (λ j h. c.loop-l.invariant j (omega arith)));
}
