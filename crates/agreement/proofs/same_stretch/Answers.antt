-- The answer and the stretch, each by its test. Assumes nothing.
use mathlib.Core.Path.{◌∙◌, sym}
use mathlib.Core.Bool.{false≢true}
use Rattle.agreement.proofs.same_stretch.Goals as goal

pub returns-then-not-same_answer : goal.returns-then-not-same_answer
returns-then-not-same_answer c = record { agreed = λ e. absurd (false≢true e) }

pub returns : goal.returns
returns c = record {
  agreed =
      λ e. (
        sym c.gilfrunt_section_answer-a.ensures.answer ∙ c.same_answer.ensures.equal.0 (c.if-not-same_answer.false),
        sym c.section.ensures.stretch ∙ c.same_bytes.ensures.equal.0 e ∙ c.expected.ensures.list,
      );
}
