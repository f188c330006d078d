-- The tests in the definition's order; past the third the last section ends within the book. Assumes nothing.
use Prim.Native.Nat.{◌≤◌}
use native.Mathlib.Omega.{arith}
use lib.ListN.{length}
use Rattle.contents.specs.Contents.{contents}
use Rattle.contents.proofs.Editions.{sections-low, sections-high}
use Rattle.book.proofs.Shape.{too_short, off-place, last_within, good-shape, over-second, over_first}
use borrow.Author.Rules.{rules}
use Rattle.book.proofs.book_answer.Goals as goal
use Rattle.book.proofs.book_answer.Goals.{Else-book-n}

-- past the second test the contents stand in the book
long : (c : Else-book-n) → (let b = c.args.book.now in contents b ≤ length b)
long c = omega (arith, c.if-book-n.false, c.sections-n.ensures.count)

pub returns-then-book-lt176 : goal.returns-then-book-lt176
returns-then-book-lt176 c = record {
  answer =
      let b = c.args.book.now in
      too_short b (omega (arith, c.if-book-lt176.true, sections-low b));
}

pub overflow_mul-n : goal.overflow_mul-n
overflow_mul-n c =
    let h = sections-high c.args.book.now in
    let e = c.sections-n.ensures.count in
    search rules

pub returns-then-book-n : goal.returns-then-book-n
returns-then-book-n c = record {
  answer =
      let b = c.args.book.now in
      too_short b (omega (arith, c.if-book-n.true, c.sections-n.ensures.count));
}

pub first_bad-bad-requires : goal.first_bad-bad-requires
first_bad-bad-requires c = (c.sections-n.ensures.count, long c)

pub overflow_add-result : goal.overflow_add-result
overflow_add-result c =
    let h = sections-high c.args.book.now in
    let e = c.sections-n.ensures.count in
    search rules

pub returns-then-bad-n : goal.returns-then-bad-n
returns-then-bad-n c = record {
  answer =
      off-place c.args.book.now (long (goal.at.returns-then-bad-n c).Else-book-n) _ c.sections-n.ensures.count _ c.first_bad-bad.ensures.entry
      c.if-bad-n.true;
}

pub overflow_sub-n : goal.overflow_sub-n
overflow_sub-n c = omega (arith, sections-low c.args.book.now, c.sections-n.ensures.count)

pub end_of-requires : goal.end_of-requires
end_of-requires c =
    let b = c.args.book.now in
    let l : contents b ≤ length b = long (goal.at.end_of-requires c).Else-book-n in
    record {
      i_bound = (omega (arith, sections-low b, c.sections-n.ensures.count), l);
      i_in_bounds = last_within b l _ c.sections-n.ensures.count _ c.first_bad-bad.ensures.entry c.if-bad-n.false;
    }

pub returns-then-end_of-book : goal.returns-then-end_of-book
returns-then-end_of-book c = record {
  answer =
      good-shape c.args.book.now (long (goal.at.returns-then-end_of-book c).Else-book-n) _ c.sections-n.ensures.count _ c.first_bad-bad.ensures.entry
      c.if-bad-n.false _ c.end_of.ensures.value c.if-end_of-book.true;
}

pub returns-then-n-eq12 : goal.returns-then-n-eq12
returns-then-n-eq12 c = record {
  answer =
      over-second c.args.book.now (long (goal.at.returns-then-n-eq12 c).Else-book-n) _ c.sections-n.ensures.count _ c.first_bad-bad.ensures.entry
      c.if-bad-n.false _ c.end_of.ensures.value c.if-end_of-book.false c.if-n-eq12.true;
}

pub returns : goal.returns
returns c = record {
  answer =
      over_first c.args.book.now (long (goal.at.returns c).Else-book-n) _ c.sections-n.ensures.count _ c.first_bad-bad.ensures.entry
      c.if-bad-n.false _ c.end_of.ensures.value c.if-end_of-book.false c.if-n-eq12.false;
}
