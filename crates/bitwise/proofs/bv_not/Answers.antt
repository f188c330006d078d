-- The complement is the difference from all ones (`not-law`). Assumes nothing.
use Rattle.std.proofs.Common.{arith}
use Rattle.bitwise.proofs.Logic.{not-law}
use Rattle.bitwise.proofs.bv_not.Goals as goal

pub returns-clause-value : goal.returns-clause-value
returns-clause-value c = omega (arith, not-law c.args.a.width c.args.a.number c.args.a.fits)
