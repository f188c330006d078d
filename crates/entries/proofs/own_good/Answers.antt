-- Each arm is the definition at its table. Assumes nothing.
use Rattle.entries.proofs.own_good.Goals as goal

pub read_own-requires : goal.read_own-requires
read_own-requires c = rw c.in-Reads.is at c.requires.which_in_bounds

pub call_own-requires : goal.call_own-requires
call_own-requires c = record {
  k_in_bounds = rw c.in-Calls.is at c.requires.which_in_bounds;
  args_inside = rw c.in-Calls.is at c.requires.args_before;
}

pub returns-in-Reads : goal.returns-in-Reads
returns-in-Reads c = record { test = rw c.in-Reads.is c.read_own.ensures.test }

pub returns-in-Calls : goal.returns-in-Calls
returns-in-Calls c = record { test = rw c.in-Calls.is c.call_own.ensures.test }
