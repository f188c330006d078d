-- The test decides; where it passes, the row is in range and its class can be written. Assumes nothing.
use mathlib.Core.Path.{refl, sym, ◌∙◌}
use Rattle.applied.proofs.call_corr.Goals as goal

pub returns-then-not-call_ok : goal.returns-then-not-call_ok
returns-then-not-call_ok c = record {
  test = sym (sym c.call_ok.ensures.test ∙ c.if-not-call_ok.true);
  list = refl;
}

pub returns : goal.returns
returns c = record {
  test = sym (sym c.call_ok.ensures.test ∙ c.if-not-call_ok.false);
  list = refl;
}
