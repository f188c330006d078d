-- The four lists one after the other. Assumes nothing.
use Rattle.stages.proofs.clear_all.Goals as goal

pub returns : goal.returns
returns c = record {
  zeros = c.clear.ensures.zeros;
  zeros_1 = c.clear-2.ensures.zeros;
  zeros_2 = c.clear-3.ensures.zeros;
  zeros_3 = c.clear-4.ensures.zeros;
}
