-- The word's `|` has the bits that `or-law` asks for. Assumes nothing.
use Rattle.std.proofs.Common.{sym}
use Rattle.bitwise.proofs.Fits.{or-fits}
use Rattle.bitwise.proofs.Logic.{or-law}
use Rattle.bitwise.proofs.bv_or.Goals as goal

pub returns-clause-value : goal.returns-clause-value
returns-clause-value c = sym (or-law _ _ _ c.args.a.fits (rw c.requires c.args.b.fits))

pub invariant_of-result-clause-fits : goal.invariant_of-result-clause-fits
invariant_of-result-clause-fits c =
    rw (← or-law c.args.a.width c.args.a.number c.args.b.number c.args.a.fits (rw c.requires c.args.b.fits)) (or-fits _ _ _)
