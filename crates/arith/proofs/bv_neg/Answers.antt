-- A wrapped negative, kept to width w, is the negative at width w. Assumes nothing.
use Rattle.std.proofs.Common.{◌∙◌}
use Rattle.arith.proofs.Sums.{neg-law}
use Rattle.arith.proofs.bv_neg.Goals as goal

pub returns : goal.returns
returns c = record { value = c.low.ensures.low ∙ neg-law _ _ _ c.requires.0 c.requires.1 c.wrapping_neg.ensures }
