-- The answer and the lists, each by its test. Assumes nothing.
use mathlib.Core.Bool.{false≢true}
use Rattle.paired.proofs.Same.{same-four}
use Rattle.paired.proofs.same_check.Goals as goal

pub returns-then-not-same_answer : goal.returns-then-not-same_answer
returns-then-not-same_answer c = record { agreed = λ e. absurd (false≢true e) }

pub returns-then-not-same_both : goal.returns-then-not-same_both
returns-then-not-same_both c = record { agreed = λ e. absurd (false≢true e) }

pub returns : goal.returns
returns c = record {
  agreed =
      λ e. same-four c.call_check-a.ensures.outcome (c.same_answer.ensures.equal.0 (c.if-not-same_answer.false))
      (c.same_both.ensures.equal.0 (c.if-not-same_both.false)) (c.same_both-2.ensures.equal.0 e);
}
