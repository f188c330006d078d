-- A wrapped product of words, kept to width w, is the product at width w. Assumes nothing.
use Rattle.std.proofs.Common.{◌∙◌}
use Rattle.bv.proofs.Word.{mod-under}
use Rattle.arith.proofs.bv_mul.Goals as goal

pub returns : goal.returns
returns c = record { value = c.low.ensures.low ∙ mod-under _ _ c.requires }
