-- The goals that search leaves open. Assumes nothing.
use Rattle.std.proofs.Common.{ℕ, ◌+◌, ◌-◌, sym, ap, ◌∙◌, arith}
use Rattle.cases.specs.Case.{after_lists}
use Rattle.cases.proofs.Case.{lists-more, lists-done}
use Rattle.cases.proofs.after_lists.Goals as goal

pub loop-preserved : goal.loop-preserved
loop-preserved c =
    let a = c.args in
    record {
      same =
          c.loop.invariant.same ∙ lists-more a.words.now c.loop.at a.lists c.loop.counter c.loop-test.true
          ∙ ap (λ (p : ℕ). after_lists a.words.now p (a.lists - (c.loop.counter + 1))) (sym c.after_list-at.ensures.place.0);
      most = omega arith;
    }

pub returns-clause-place : goal.returns-clause-place
returns-clause-place c = sym (c.loop.invariant.same ∙ lists-done c.args.words.now c.loop.at c.args.lists c.loop.counter c.loop-test.false)
