-- The definition's five tests in its order; the entry is read only after the test that it lies in the table. Assumes nothing.
use Prim.Native.Nat.{◌+◌, ◌≤◌}
use mathlib.Core.Path.{◌≡◌, sym, ap, ◌∙◌}
use mathlib.Core.Bool.{true, not}
use native.Mathlib.Omega.{arith}
use borrow.Author.Tests.{lt-ltb, le-ltb, le-leb, eq-eqb, ne_eqb}
use lib.Dec.{ltb}
use lib.ListN.{length, get_or}
use Rattle.lists.proofs.Choice.{last-test}
use Rattle.lists.proofs.Tests.{within-le}
use Rattle.lists.specs.Tests.{all}
use Rattle.rows.specs.declared.Graph.TheVariants.{Target}
use Rattle.rows.specs.Row.{row_count}
use Rattle.rows.specs.Tags.{either}
use Rattle.lowering.specs.Matching.{end_good}
use Rattle.ends.proofs.base_read_ok.Goals as goal
use Rattle.ends.proofs.base_read_ok.Goals.{Else-not-read_class, Else-not-within, Else-row_count-r}

-- what each test has said: r is a row, of a read's class, its entry lies in the table
row_in : (c : Else-row_count-r) → ltb c.args.r (row_count Target c.args.asked.now.target.rows.now) ≡ true
row_in c = lt-ltb _ _ (rw c.row_count.ensures.count at c.if-row_count-r.false)

class-read : (c : Else-not-read_class) → either (get_or c.args.cls.now c.args.r 0) 2 4 ≡ true
class-read c = sym c.read_class.ensures.test ∙ c.if-not-read_class.false

entry_in : (c : Else-not-within) → get_or c.args.ent.now c.args.r 0 + 3 ≤ length c.args.asked.now.reads.now
entry_in c =
    let s = c.args in
    within-le (length s.asked.now.reads.now) (get_or s.ent.now s.r 0) 3 _ c.within.ensures.test (ap not c.if-not-within.false)

pub returns-then-row_count-r : goal.returns-then-row_count-r
unfolding end_good all
returns-then-row_count-r c = record { test = rw (le-ltb _ _ (rw c.row_count.ensures.count at c.if-row_count-r.true)) }

pub returns-then-not-read_class : goal.returns-then-not-read_class
unfolding end_good all
returns-then-not-read_class c = record {
  test =
      let p = goal.at.returns-then-not-read_class c in
      rw (row_in p.Else-row_count-r, sym c.read_class.ensures.test ∙ c.if-not-read_class.true);
}

pub returns-then-not-within : goal.returns-then-not-within
unfolding end_good all
returns-then-not-within c = record {
  test =
      let p = goal.at.returns-then-not-within c in
      rw (row_in p.Else-row_count-r, class-read p.Else-not-read_class, sym c.within.ensures.test ∙ c.if-not-within.true);
}

pub overflow_add-at : goal.overflow_add-at
overflow_add-at c = omega (arith, entry_in (goal.at.overflow_add-at c).Else-not-within)

pub offset_bounds-reads-at : goal.offset_bounds-reads-at
offset_bounds-reads-at c = omega (arith, entry_in (goal.at.offset_bounds-reads-at c).Else-not-within)

pub bounds-reads-at : goal.bounds-reads-at
bounds-reads-at c = omega (arith, entry_in (goal.at.bounds-reads-at c).Else-not-within)

pub returns-then-reads-at : goal.returns-then-reads-at
unfolding end_good all
returns-then-reads-at c = record {
  test =
      let p = goal.at.returns-then-reads-at c in
      rw (row_in p.Else-row_count-r, class-read p.Else-not-read_class, le-leb _ _ (entry_in p.Else-not-within), ne_eqb _ _ c.if-reads-at.true);
}

pub overflow_add-result : goal.overflow_add-result
overflow_add-result c = omega (arith, entry_in (goal.at.overflow_add-result c).Else-not-within)

pub offset_bounds-reads-at-2 : goal.offset_bounds-reads-at-2
offset_bounds-reads-at-2 c = omega (arith, entry_in (goal.at.offset_bounds-reads-at-2 c).Else-not-within)

pub bounds-reads-at-2 : goal.bounds-reads-at-2
bounds-reads-at-2 c = omega (arith, entry_in (goal.at.bounds-reads-at-2 c).Else-not-within)

pub returns : goal.returns
unfolding end_good all
returns c = record {
  test =
      let p = goal.at.returns c in
      rw (
        row_in p.Else-row_count-r,
        class-read p.Else-not-read_class,
        le-leb _ _ (entry_in p.Else-not-within),
        eq-eqb _ _ c.if-reads-at.false,
        c.map_at.ensures.row,
      ) (last-test _);
}
