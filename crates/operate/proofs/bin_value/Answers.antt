-- Two operands side by side are a word. Assumes nothing.
use native.Mathlib.Omega.{arith}
use Rattle.arith.proofs.Fits.{concat-word}
use Rattle.operate.proofs.bin_value.Goals as goal

pub bv_concat-requires : goal.bv_concat-requires
bv_concat-requires c =
    let s = c.requires.sum c.if-t-eq-CONCAT.true in
    (omega (arith, s, c.args.a.positive), concat-word _ _ _ _ s c.args.a.fits c.args.b.fits)
