-- The leading zeros say which widths hold a word. Assumes nothing.
use Rattle.std.proofs.Common.{arith}
use Rattle.arith.proofs.Highest.{highest-below}
use Rattle.arith.proofs.value_fits.Goals as goal

pub returns : goal.returns
returns c = record { value = rw c.from.ensures (highest-below 64 _ _ (omega arith)) }
