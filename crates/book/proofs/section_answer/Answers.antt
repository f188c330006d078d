-- The number's two tests, then the book's answer, and for section 12 the edition's. Assumes nothing.
use Prim.Native.Nat.{◌≤◌}
use mathlib.Core.Path.{sym, ap, ◌∙◌}
use native.Mathlib.Omega.{arith}
use borrow.Author.Tests.{eq-eqb, ne_eqb, lt-ltb}
use Rattle.book.specs.Book.{section_answer}
use Rattle.book.proofs.Shape.{shape-counts}
use Rattle.book.proofs.section_answer.Goals as goal

pub returns-then-number-eq0 : goal.returns-then-number-eq0
returns-then-number-eq0 c = record { answer = rw (eq-eqb _ _ c.if-number-eq0.true) }

pub returns-then-number-gt12 : goal.returns-then-number-gt12
returns-then-number-gt12 c = record { answer = rw (ne_eqb _ _ c.if-number-eq0.false, lt-ltb 12 c.args.number (omega (arith, c.if-number-gt12.true))) }

pub twelfth_answer-requires : goal.twelfth_answer-requires
twelfth_answer-requires c = c.book_answer-shape.ensures.answer

pub returns-then-number-eq12 : goal.returns-then-number-eq12
returns-then-number-eq12 c = record {
  answer =
      let s = c.args in
      c.twelfth_answer.ensures.answer ∙ ap (section_answer s.book.now) (sym c.if-number-eq12.true);
}

pub returns : goal.returns
returns c = record {
  answer =
      let t = c.before.before in
      let s = t.args in
      let h : s.number ≤ 12 = omega (arith, t.if-number-gt12.false) in
      c.book_answer-shape.ensures.answer ∙ shape-counts s.book.now s.number t.if-number-eq0.false h c.if-number-eq12.false;
}
