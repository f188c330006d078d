-- By the definition's choice: not both constants, equal constants, unequal ones. Assumes nothing.
use mathlib.Core.Path.{◌∙◌, sym}
use Rattle.chains.proofs.pair_step.Goals as goal

pub returns-then-not-both_const : goal.returns-then-not-both_const
returns-then-not-both_const c = record {
  step =
      rw (sym (rw c.row-e.ensures.row at c.both_const.ensures.test)
      ∙ c.if-not-both_const.true) (c.level.ensures.step ∙ rw (c.map_at.ensures.row, c.map_at-then-not-both_const.ensures.row));
}

pub same_bits-requires : goal.same_bits-requires
same_bits-requires c =
    let p = c.requires in
    (rw c.row-e.ensures.row (p.consts_within.0 _ p.p_bound), p.consts_within.1, sym c.both_const.ensures.test ∙ c.if-not-both_const.false)

pub returns-then-same_bits : goal.returns-then-same_bits
returns-then-same_bits c = record {
  step =
      rw (
        sym (rw c.row-e.ensures.row at c.both_const.ensures.test)
            ∙ c.if-not-both_const.false,
        sym (rw c.row-e.ensures.row at c.same_bits.ensures.test)
            ∙ c.if-same_bits.true,
      );
}

pub returns : goal.returns
returns c = record {
  step =
      rw (
        sym (rw c.row-e.ensures.row at c.both_const.ensures.test)
            ∙ c.if-not-both_const.false,
        sym (rw c.row-e.ensures.row at c.same_bits.ensures.test)
            ∙ c.if-same_bits.false,
      );
}
