-- The word's `&` has the bits that `and-law` asks for. Assumes nothing.
use Rattle.std.proofs.Common.{sym}
use Rattle.bitwise.proofs.Logic.{and-law}
use Rattle.bitwise.proofs.bv_and.Goals as goal

pub returns-clause-value : goal.returns-clause-value
returns-clause-value c = sym (and-law _ _ _ c.args.a.fits (rw c.requires c.args.b.fits))
