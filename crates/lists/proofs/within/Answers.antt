-- More words than the list has, or a start within the room that is left. Assumes nothing.
use mathlib.Core.Path.{sym}
use Rattle.lists.proofs.Tests.{within-short, within-rest}
use Rattle.lists.proofs.within.Goals as goal

pub returns-then-n-k : goal.returns-then-n-k
returns-then-n-k c = record { test = sym (within-short _ _ _ c.if-n-k.true) }

pub returns : goal.returns
returns c = record { test = within-rest _ _ _ c.if-n-k.false }
