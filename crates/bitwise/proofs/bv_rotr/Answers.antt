-- The two parts change places (`rotr-word`); an amount of 0 is apart, so no shift is by 64. Assumes nothing.
use Rattle.std.proofs.Common.{◌≤◌, ◌%◌, mod-lt, arith}
use Rattle.bv.specs.Bv.{rotate_right}
use Rattle.bitwise.proofs.Fits.{rotr-fits}
use Rattle.bitwise.proofs.Turn.{rotr-word}
use Rattle.bitwise.proofs.bv_rotr.Goals as goal

pub returns-then-k-eq0-clause-value : goal.returns-then-k-eq0-clause-value
unfolding rotate_right
returns-then-k-eq0-clause-value c = rw c.if-k-eq0.true

pub returns-clause-value : goal.returns-clause-value
returns-clause-value c =
    let h : c.args.b.number % c.args.a.width ≤ c.args.a.width = omega (arith, mod-lt c.args.b.number c.args.a.positive) in
    rw c.low.ensures.low (rotr-word _ _ _ h c.args.a.narrow c.args.a.fits)

pub invariant_of-result-clause-fits : goal.invariant_of-result-clause-fits
invariant_of-result-clause-fits c =
    let h : c.args.b.number % c.args.a.width ≤ c.args.a.width = omega (arith, mod-lt c.args.b.number c.args.a.positive) in
    rw (c.low.ensures.low, rotr-word c.args.a.width _ c.args.a.number h c.args.a.narrow c.args.a.fits)
    (rotr-fits c.args.a.width c.args.a.number c.args.b.number c.args.a.positive c.args.a.fits)
