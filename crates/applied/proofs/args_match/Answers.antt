-- The goals that search leaves open. Assumes nothing.
use mathlib.Core.Path.{◌∙◌, sym}
use Rattle.images.proofs.Agree.{agreed-more, agreed-no, agreed-all}
use Rattle.applied.proofs.args_match.Goals as goal

pub returns-then-map_at-cargs : goal.returns-then-map_at-cargs
returns-then-map_at-cargs c = record {
  test =
      agreed-no _ _ _ _ c.loop-l.invariant c.loop-l-test.true
      (λ z. c.if-map_at-cargs.true (c.map_at.ensures.row ∙ z));
}

pub loop-l-preserved : goal.loop-l-preserved
loop-l-preserved c =
    agreed-more _ _ _ _ c.loop-l.invariant c.loop-l-test.true
    (sym c.map_at.ensures.row ∙ c.if-map_at-cargs.false)

pub returns : goal.returns
returns c = record { test = agreed-all _ _ _ _ c.loop-l.invariant c.loop-l-test.false }
