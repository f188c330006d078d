-- Every book has the sections that Check takes; the edition and each of the eleven lists are the book's, by the call that took them. Assumes nothing.
use native.Mathlib.Omega.{arith}
use Rattle.contents.proofs.Editions.{sections-low}
use Rattle.loaded.proofs.Held.{held_by}
use Rattle.loaded.proofs.asked_by.Goals as goal

pub list_at-requires-clause-i_bound : goal.list_at-requires-clause-i_bound
list_at-requires-clause-i_bound c = omega (arith, sections-low c.args.book.bytes.now)

pub body-requires : goal.body-requires
body-requires c = omega (arith, sections-low c.args.book.bytes.now)

pub list_at-requires-2-clause-i_bound : goal.list_at-requires-2-clause-i_bound
list_at-requires-2-clause-i_bound c = omega (arith, sections-low c.args.book.bytes.now)

pub list_at-requires-3-clause-i_bound : goal.list_at-requires-3-clause-i_bound
list_at-requires-3-clause-i_bound c = omega (arith, sections-low c.args.book.bytes.now)

pub list_at-requires-4-clause-i_bound : goal.list_at-requires-4-clause-i_bound
list_at-requires-4-clause-i_bound c = omega (arith, sections-low c.args.book.bytes.now)

pub list_at-requires-5-clause-i_bound : goal.list_at-requires-5-clause-i_bound
list_at-requires-5-clause-i_bound c = omega (arith, sections-low c.args.book.bytes.now)

pub list_at-requires-6-clause-i_bound : goal.list_at-requires-6-clause-i_bound
list_at-requires-6-clause-i_bound c = omega (arith, sections-low c.args.book.bytes.now)

pub list_at-requires-7-clause-i_bound : goal.list_at-requires-7-clause-i_bound
list_at-requires-7-clause-i_bound c = omega (arith, sections-low c.args.book.bytes.now)

pub list_at-requires-8-clause-i_bound : goal.list_at-requires-8-clause-i_bound
list_at-requires-8-clause-i_bound c = omega (arith, sections-low c.args.book.bytes.now)

pub body-requires-2 : goal.body-requires-2
body-requires-2 c = omega (arith, sections-low c.args.book.bytes.now)

pub list_at-requires-9-clause-i_bound : goal.list_at-requires-9-clause-i_bound
list_at-requires-9-clause-i_bound c = omega (arith, sections-low c.args.book.bytes.now)

pub returns : goal.returns
returns c = record {
  lists =
      held_by c.args.book.bytes.now _ _ _ _ _ _ _ _ _ _ _ _ c.sorts_at.ensures.table c.list_at.ensures.list
      c.body.ensures.stretch c.list_at-2.ensures.list c.list_at-3.ensures.list c.list_at-4.ensures.list c.list_at-5.ensures.list
      c.list_at-6.ensures.list c.list_at-7.ensures.list c.list_at-8.ensures.list c.body-2.ensures.stretch c.list_at-9.ensures.list;
}
