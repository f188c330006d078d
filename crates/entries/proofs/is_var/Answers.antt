-- Each arm is the definition at its table. Assumes nothing.
use Rattle.entries.proofs.is_var.Goals as goal

pub returns-in-Reads : goal.returns-in-Reads
returns-in-Reads c = record { test = rw c.in-Reads.is c.row_is_var.ensures.test }

pub returns-in-Calls : goal.returns-in-Calls
returns-in-Calls c = record { test = rw (c.in-Calls.is, c.node_tag.ensures.word) }
