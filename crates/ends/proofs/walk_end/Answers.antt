-- By where the walk stopped: each arm is the definition at that stop. Assumes nothing.
use mathlib.Core.Path.{◌∙◌, refl, sym}
use lib.Dec.{eqb}
use Rattle.lowering.specs.Matching.{end_good}
use Rattle.lists.proofs.Choice.{cond_same}
use Rattle.ends.proofs.walk_end.Goals as goal

pub returns-in-RanOut : goal.returns-in-RanOut
returns-in-RanOut c = record {
  test = c.base_read.ensures.test ∙ rw c.in-RanOut.is;
  list = c.base_read.ensures.list
      ∙ rw c.in-RanOut.is;
}

pub returns-in-Met : goal.returns-in-Met
unfolding end_good
returns-in-Met c = record {
  test = rw (c.in-Met.is, c.map_at.ensures.row);
  list = rw c.in-Met.is (sym (cond_same (eqb c.in-Met.r c.map_at.result)
      c.args.cls.now));
}

pub returns-in-Lost : goal.returns-in-Lost
unfolding end_good
returns-in-Lost c = record {
  test = rw c.in-Lost.is;
  list = refl;
}
