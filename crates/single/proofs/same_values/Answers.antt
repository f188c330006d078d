-- The answer and the lists, each by its test. Assumes nothing.
use mathlib.Core.Bool.{false≢true}
use Rattle.single.proofs.Same.{same-two, values-call}
use Rattle.single.proofs.same_values.Goals as goal

pub returns-then-not-same_answer : goal.returns-then-not-same_answer
returns-then-not-same_answer c = record { agreed = λ e. absurd (false≢true e) }

pub returns : goal.returns
returns c = record {
  agreed =
      let a = c.args in
      λ e. values-call a.words.now a.bits.now a.widths.now a.numbers.now c.given-rows.ensures.list c.given.ensures.list
      (same-two c.gilfrunt_values-a.ensures.outcome (c.same_answer.ensures.equal.0 (c.if-not-same_answer.false))
      (c.same_both.ensures.equal.0 e));
}
