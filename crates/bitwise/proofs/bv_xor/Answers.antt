-- The word's `^` has the bits that `xor-law` asks for. Assumes nothing.
use Rattle.std.proofs.Common.{sym}
use Rattle.bitwise.proofs.Fits.{xor-fits}
use Rattle.bitwise.proofs.Logic.{xor-law}
use Rattle.bitwise.proofs.bv_xor.Goals as goal

pub returns-clause-value : goal.returns-clause-value
returns-clause-value c = sym (xor-law _ _ _ c.args.a.fits (rw c.requires c.args.b.fits))

pub invariant_of-result-clause-fits : goal.invariant_of-result-clause-fits
invariant_of-result-clause-fits c =
    rw (← xor-law c.args.a.width c.args.a.number c.args.b.number c.args.a.fits (rw c.requires c.args.b.fits)) (xor-fits _ _ _)
