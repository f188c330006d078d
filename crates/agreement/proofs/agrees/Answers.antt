-- Each operation by its function, which the first word chooses. Assumes nothing.
use mathlib.Core.Bool.{false≢true}
use Rattle.agreement.specs.Agrees.{source-widths, target-widths, roots, value-list, lowered, book, book-section, strictly-lowered, strict-book}
use Rattle.agreement.specs.Agrees.{sorted-widths, sorted-lowered, sorted-strictly}
use Rattle.agreement.proofs.agrees.Goals as goal

pub returns-then-words-eq0 : goal.returns-then-words-eq0
returns-then-words-eq0 c = record { agreed = λ e. absurd (false≢true e) }

pub returns-in-1 : goal.returns-in-1
returns-in-1 c = record { agreed = λ e. source-widths c.in-1.is (c.widths_agree.ensures.agreed e) }

pub returns-in-2 : goal.returns-in-2
returns-in-2 c = record { agreed = λ e. target-widths c.in-2.is (c.widths_agree-in-2.ensures.agreed e) }

pub returns-in-3 : goal.returns-in-3
returns-in-3 c = record { agreed = λ e. roots c.in-3.is (c.roots_agree.ensures.agreed e) }

pub returns-in-4 : goal.returns-in-4
returns-in-4 c = record { agreed = λ e. value-list c.in-4.is (c.values_agree.ensures.agreed e) }

pub returns-in-5 : goal.returns-in-5
returns-in-5 c = record { agreed = λ e. lowered c.in-5.is (c.check_agrees.ensures.agreed e) }

pub returns-in-6 : goal.returns-in-6
returns-in-6 c = record { agreed = λ e. book c.in-6.is (c.book_agrees.ensures.agreed e) }

pub returns-in-7 : goal.returns-in-7
returns-in-7 c = record { agreed = λ e. book-section c.in-7.is (c.section_agrees.ensures.agreed e) }

pub returns-in-8 : goal.returns-in-8
returns-in-8 c = record { agreed = λ e. strictly-lowered c.in-8.is (c.check_agrees-in-8.ensures.agreed e) }

pub returns-in-9 : goal.returns-in-9
returns-in-9 c = record { agreed = λ e. strict-book c.in-9.is (c.book_agrees-in-9.ensures.agreed e) }

pub returns-in-10 : goal.returns-in-10
returns-in-10 c = record { agreed = λ e. sorted-widths c.in-10.is (c.widths_agree-in-10.ensures.agreed e) }

pub returns-in-11 : goal.returns-in-11
returns-in-11 c = record { agreed = λ e. sorted-lowered c.in-11.is (c.check_agrees-in-11.ensures.agreed e) }

pub returns-in-12 : goal.returns-in-12
returns-in-12 c = record { agreed = λ e. sorted-strictly c.in-12.is (c.check_agrees-in-12.ensures.agreed e) }

pub returns-in_default : goal.returns-in_default
returns-in_default c = record { agreed = λ e. absurd (false≢true e) }
