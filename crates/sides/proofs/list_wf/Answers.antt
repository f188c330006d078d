-- No row so far is bad: none where the search ends, not none where it stops. Assumes nothing.
use mathlib.Core.Path.{sym}
use native.Mathlib.Nat.{not-suc-le-zero}
use native.Mathlib.Omega.{arith}
use borrow.Author.Count.{below_more}
use borrow.Author.Tests.{le-leb, lt-leb}
use Rattle.lists.proofs.First.{none-yes, none-no}
use Rattle.rules.specs.Rule.{arg_bad}
use Rattle.sides.proofs.list_wf.Goals as goal

pub loop-l-init : goal.loop-l-init
loop-l-init c = λ j h. absurd (not-suc-le-zero h)

pub returns-then-n-side : goal.returns-then-n-side
returns-then-n-side c = record {
  test =
      let s = c.args in
      sym (none-no (arg_bad s.n s.side.now s.s) _ _ c.loop-l-test.true (le-leb _ _ c.if-n-side.true) c.loop-l.invariant);
}

pub loop-l-preserved : goal.loop-l-preserved
loop-l-preserved c = below_more _ _ c.loop-l.invariant (lt-leb _ _ c.if-n-side.false)

pub returns : goal.returns
returns c = record {
  test =
      let s = c.args in
      sym (none-yes (arg_bad s.n s.side.now s.s) _ (λ j h. c.loop-l.invariant j (omega arith)));
}
