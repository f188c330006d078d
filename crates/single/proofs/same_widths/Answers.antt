-- The answer and the list, each by its test. Assumes nothing.
use mathlib.Core.Bool.{false≢true}
use Rattle.single.proofs.Same.{same-one}
use Rattle.single.proofs.same_widths.Goals as goal

pub returns-then-not-same_answer : goal.returns-then-not-same_answer
returns-then-not-same_answer c = record { agreed = λ e. absurd (false≢true e) }

pub returns : goal.returns
returns c = record {
  agreed =
      λ e. same-one c.call_widths-a.ensures.outcome
      (c.same_answer.ensures.equal.0 (c.if-not-same_answer.false)) (c.same_lent.ensures.equal.0 e);
}
