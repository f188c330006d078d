-- Bits have no words; other sections are read into the part behind the words before. Assumes nothing.
use Rattle.std.proofs.Common.{◌∙◌, sym}
use Rattle.bodies.proofs.Words.{bits-joined, words-room, words-joined}
use Rattle.bodies.proofs.load_section.Goals as goal

pub returns-then-is_bits : goal.returns-then-is_bits
returns-then-is_bits c = record {
  list = bits-joined c.args.book.bytes.now c.args.i c.args.words.now (sym c.is_bits.ensures.test ∙ c.if-is_bits.true);
}

pub read_words-requires : goal.read_words-requires
read_words-requires c =
    words-room c.args.book.bytes.now c.args.i c.args.words.now c.args.book.good c.requires.i_bound.0 c.requires.i_in_bounds _ c.requires.i_bound.1 _
    c.body.ensures.stretch (sym c.is_bits.ensures.test ∙ c.if-is_bits.false)

pub returns : goal.returns
returns c = record {
  list =
      let s = c.args in
      words-joined s.book.bytes.now s.i s.words.now s.book.good c.requires.i_bound.0 c.requires.i_in_bounds _ c.requires.i_bound.1 _
      c.body.ensures.stretch (sym c.is_bits.ensures.test ∙ c.if-is_bits.false) _ c.read_words.ensures.list;
}
