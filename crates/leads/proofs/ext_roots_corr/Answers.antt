-- The goals that search leaves open. Assumes nothing.
use mathlib.Core.Path.{sym, ap}
use mathlib.Core.Bool.{not}
use native.Mathlib.Omega.{arith}
use borrow.Author.Count.{below_more}
use Rattle.lists.proofs.First.{first-at, first-none}
use Rattle.lowering.specs.Roots.{leads}
use Rattle.leads.proofs.ext_roots_corr.Goals as goal

pub returns-then-not-root_leads : goal.returns-then-not-root_leads
returns-then-not-root_leads c = record {
  position =
      let s = c.args in
      sym
      (first-at (λ j. not (leads s.map.now s.eroots.now s.troots.now j)) _ _ (omega arith)
      (ap not (rw c.root_leads.ensures.test at c.if-not-root_leads.true)) c.loop-k.invariant);
}

pub loop-k-preserved : goal.loop-k-preserved
loop-k-preserved c = below_more _ _ c.loop-k.invariant (ap not (rw c.root_leads.ensures.test at c.if-not-root_leads.false))

pub returns : goal.returns
returns c = record {
  position =
      let s = c.args in
      sym (first-none (λ j. not (leads s.map.now s.eroots.now s.troots.now j)) _ (λ j h. c.loop-k.invariant j (omega arith)));
}
