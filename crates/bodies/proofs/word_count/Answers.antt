-- An eighth of the section's length, which is whole. Assumes nothing.
use Rattle.std.proofs.Common.{◌∙◌, sym}
use Rattle.bodies.proofs.Words.{words_count}
use Rattle.bodies.proofs.word_count.Goals as goal

pub returns : goal.returns
returns c = record {
  count =
      rw c.length_of.ensures.value (sym (words_count c.args.book.bytes.now c.args.book.good c.args.i c.requires
      (sym c.is_bits.ensures.test ∙ c.if-is_bits.false)));
}
