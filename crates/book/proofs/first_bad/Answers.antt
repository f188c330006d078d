-- The goals that search leaves open. Assumes nothing.
use Rattle.std.proofs.Common.{◌≤◌, ◌<◌, sym, ◌∙◌, add-one, arith}
use borrow.Author.Count.{below_more}
use Rattle.lists.proofs.First.{first-at, first_past}
use Rattle.contents.specs.Contents.{sections}
use Rattle.book.specs.Book.{bad_section}
use Rattle.book.proofs.first_bad.Goals as goal

pub returns-then-bad_section : goal.returns-then-bad_section
returns-then-bad_section c = record {
  entry =
      let h : c.loop-i.i < sections c.args.book.now = omega arith in
      sym (first-at (bad_section c.args.book.now) _ _ h (sym c.bad_section.ensures.test ∙ c.if-bad_section.true) c.loop-i.invariant.good);
}

pub loop-i-preserved : goal.loop-i-preserved
loop-i-preserved c = record {
  place = rw add-one c.end_of-due.ensures.value;
  good = below_more _ _ c.loop-i.invariant.good (sym c.bad_section.ensures.test ∙ c.if-bad_section.false);
}

pub returns : goal.returns
returns c = record {
  entry =
      let l : c.args.n ≤ sections c.args.book.now = omega arith in
      let m : sections c.args.book.now ≤ c.args.n = omega arith in
      sym (first_past (bad_section c.args.book.now) _ _ l m (λ j h. c.loop-i.invariant.good j (omega arith)));
}
