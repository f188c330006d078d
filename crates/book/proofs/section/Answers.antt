-- An accepted number names a section of a good book. Assumes nothing.
use mathlib.Core.Path.{◌≡◌, ap, ◌∙◌}
use mathlib.Core.Bool.{true, false, not}
use Rattle.answers.specs.Answer.{is_accepted}
use Rattle.book.specs.Book.{section_answer}
use Rattle.book.proofs.Shape.{numbered}
use Rattle.book.proofs.section.Goals as goal

pub returns-then-is_err : goal.returns-then-is_err
returns-then-is_err c = record {
  stretch =
      let a = c.args in
      let e : is_accepted (section_answer a.book.now a.number) ≡ false =
      rw c.section_answer.ensures.answer at (c.is_err.ensures.negation ∙ ap not c.if-is_err.true) in
      rw e;
}

pub overflow_sub-number : goal.overflow_sub-number
overflow_sub-number c =
    let a = c.args in
    (numbered a.book.now a.number (rw c.section_answer.ensures.answer at (c.is_err.ensures.negation ∙ ap not c.if-is_err.false))).low

pub body-requires : goal.body-requires
body-requires c =
    let a = c.args in
    let n =
    numbered a.book.now a.number (rw c.section_answer.ensures.answer at (c.is_err.ensures.negation ∙ ap not c.if-is_err.false)) in
    n.high

pub returns : goal.returns
returns c = record {
  stretch =
      let a = c.args in
      let e : is_accepted (section_answer a.book.now a.number) ≡ true =
      rw c.section_answer.ensures.answer at (c.is_err.ensures.negation ∙ ap not c.if-is_err.false) in
      rw e c.body.ensures.stretch;
}
