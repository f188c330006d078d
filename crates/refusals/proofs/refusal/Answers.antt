-- Each return is a path through the definition's tests. Assumes nothing.
use borrow.Author.Tests.{lt-ltb, le-ltb}
use Rattle.refusals.proofs.refusal.Goals as goal

pub bad_row-row-requires : goal.bad_row-row-requires
bad_row-row-requires c = record { from_bound = c.requires.stop_bound; by_index = c.requires.by_index }

pub returns-then-row-row_count : goal.returns-then-row-row_count
returns-then-row-row_count c = record {
  answer =
      rw (
        c.bad_row-row.ensures.row,
        c.graph_number-number.ensures.number,
        lt-ltb _ _ (rw (c.bad_row-row.ensures.row, c.row_count.ensures.count) at c.if-row-row_count.true),
      );
}

-- the rows are good, then the bits
pub returns-then-bit-bits : goal.returns-then-bit-bits
returns-then-bit-bits c = record {
  answer =
      rw (
        c.bad_bit-bit.ensures.position,
        c.graph_number-number.ensures.number,
        le-ltb _ _ (rw (c.bad_row-row.ensures.row, c.row_count.ensures.count) at c.if-row-row_count.false),
        lt-ltb _ _ (rw c.bad_bit-bit.ensures.position at c.if-bit-bits.true),
      );
}
