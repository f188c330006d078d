-- Copies of the sign as a difference of ones. Assumes nothing.
use Rattle.std.proofs.Common.{sym, ◌∙◌, lt_of_lt_of_le, pow_mono, arith}
use Rattle.arith.proofs.Fits.{sign-extend-fits}
use Rattle.arith.proofs.Parts.{ones-grow, sign-ones}
use Rattle.arith.proofs.bv_sign_extend.Goals as goal

pub overflow_sub-result : goal.overflow_sub-result
overflow_sub-result c = rw (c.ones-then-is_negative.ensures.ones, c.ones.ensures.ones) (ones-grow _ _)

pub invariant_of-result-clause-fits : goal.invariant_of-result-clause-fits
invariant_of-result-clause-fits c =
    rw (
      c.ones-then-is_negative.ensures.ones,
      c.ones.ensures.ones,
      sign-ones c.args.a.width c.args.n c.args.a.number (sym c.is_negative.ensures.sign ∙ c.if-is_negative.true),
    )
    (sign-extend-fits _ _ _ c.args.a.fits)

pub returns-then-is_negative-clause-value : goal.returns-then-is_negative-clause-value
returns-then-is_negative-clause-value c =
    rw (c.ones-then-is_negative.ensures.ones, c.ones.ensures.ones)
    (sign-ones _ _ _ (sym c.is_negative.ensures.sign ∙ c.if-is_negative.true))

pub invariant_of-result-2-clause-fits : goal.invariant_of-result-2-clause-fits
invariant_of-result-2-clause-fits c = lt_of_lt_of_le c.args.a.fits (pow_mono (omega arith))
