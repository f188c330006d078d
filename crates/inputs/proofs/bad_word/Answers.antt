-- The first bad word ends the search; past the last word there is none. Assumes nothing.
use Rattle.std.proofs.Common.{◌∙◌, sym, arith}
use Rattle.lists.proofs.First.{first-at, first-none}
use Rattle.inputs.specs.Inputs.{word_bad}
use Rattle.inputs.proofs.bad_word.Goals as goal

pub returns-then-word_bad : goal.returns-then-word_bad
returns-then-word_bad c = record {
  row =
      sym (first-at (word_bad c.args.g.now c.args.given.now) _ _ (rw c.requires at c.loop-i-test.true)
      (rw c.row.ensures.row at (sym c.word_bad.ensures.test ∙ c.if-word_bad.true))
      c.loop-i.invariant);
}

pub returns : goal.returns
returns c = record {
  row = c.requires ∙ sym (first-none (word_bad c.args.g.now c.args.given.now) _ (λ j h. c.loop-i.invariant j (omega arith)));
}
