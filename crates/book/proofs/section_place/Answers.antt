-- An accepted number names a section of a good book, whose entry is read. Assumes nothing.
use mathlib.Core.Path.{◌≡◌, ap, ◌∙◌}
use mathlib.Core.Bool.{true, false, not}
use Rattle.answers.specs.Answer.{is_accepted}
use Rattle.book.specs.Book.{section_answer}
use Rattle.book.proofs.Shape.{good_book, numbered}
use Rattle.book.proofs.section_place.Goals as goal

pub returns-then-is_err : goal.returns-then-is_err
returns-then-is_err c = record {
  place =
      let a = c.args in
      let e : is_accepted (section_answer a.book.now a.number) ≡ false =
      rw c.section_answer.ensures.answer at (c.is_err.ensures.negation ∙ ap not c.if-is_err.true) in
      rw e;
}

pub overflow_sub-i : goal.overflow_sub-i
overflow_sub-i c =
    let a = c.args in
    (numbered a.book.now a.number (rw c.section_answer.ensures.answer at (c.is_err.ensures.negation ∙ ap not c.if-is_err.false))).low

pub start_of-requires : goal.start_of-requires
start_of-requires c =
    let a = c.args in
    let n =
    numbered a.book.now a.number (rw c.section_answer.ensures.answer at (c.is_err.ensures.negation ∙ ap not c.if-is_err.false)) in
    (n.high, (good_book a.book.now n.shape).long)

pub length_of-requires : goal.length_of-requires
length_of-requires c =
    let a = c.args in
    let n =
    numbered a.book.now a.number (rw c.section_answer.ensures.answer at (c.is_err.ensures.negation ∙ ap not c.if-is_err.false)) in
    (n.high, (good_book a.book.now n.shape).long)

pub returns : goal.returns
returns c = record {
  place =
      let a = c.args in
      let e : is_accepted (section_answer a.book.now a.number) ≡ true =
      rw c.section_answer.ensures.answer at (c.is_err.ensures.negation ∙ ap not c.if-is_err.false) in
      rw (e, c.start_of.ensures.value, c.length_of.ensures.value);
}
