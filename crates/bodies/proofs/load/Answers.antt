-- The goals that search leaves open. Assumes nothing.
use Rattle.std.proofs.Common.{◌<◌, arith}
use Rattle.contents.specs.Contents.{sections}
use Rattle.bodies.proofs.Words.{loaded-none, offset-more, filled_none, filled_more, loaded-below}
use Rattle.bodies.proofs.load.Goals as goal

pub loop-i-init : goal.loop-i-init
loop-i-init c = record { ends = loaded-none c.args.book.bytes.now; stands = filled_none c.args.book.bytes.now c.args.words.now }

pub load_section-requires-clause-i_in_bounds : goal.load_section-requires-clause-i_in_bounds
load_section-requires-clause-i_in_bounds c =
    let b = c.args.book.bytes.now in
    let i : c.loop-i.i < sections b = omega arith in
    omega (arith, loaded-below b (sections b) c.loop-i.i i, c.requires.book_in_bounds)

pub loop-i-preserved : goal.loop-i-preserved
loop-i-preserved c =
    let b = c.args.book.bytes.now in
    record {
      ends = offset-more b _ _ _ c.loop-i.invariant.ends c.word_count-at.ensures.count;
      stands = filled_more b c.args.words.now c.loop-i.i c.loop-i.words _ c.loop-i.invariant.stands c.load_section.ensures.list;
    }
