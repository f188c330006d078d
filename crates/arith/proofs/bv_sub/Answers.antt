-- A wrapped difference of words, kept to width w, is the difference at width w. Assumes nothing.
use Rattle.std.proofs.Common.{◌∙◌, arith}
use Rattle.arith.proofs.Sums.{sub-law}
use Rattle.arith.proofs.bv_sub.Goals as goal

pub returns : goal.returns
returns c = record { value = c.low.ensures.low ∙ sub-law _ _ _ _ c.requires.0 c.requires.1 (omega arith) }
