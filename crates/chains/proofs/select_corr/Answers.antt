-- The walk's stop, then the test of that stop. Assumes nothing.
use mathlib.Core.Path.{◌∙◌}
use Rattle.chains.proofs.select_corr.Goals as goal

pub returns : goal.returns
returns c = record {
  test = c.walk_end.ensures.test ∙ rw c.chain_walk-w.ensures.stop;
  list = c.walk_end.ensures.list
      ∙ rw c.chain_walk-w.ensures.stop;
}
