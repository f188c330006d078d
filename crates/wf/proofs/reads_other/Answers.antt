-- No read, or the test of its array. Assumes nothing.
use borrow.Author.Tests.{eqb-true, not-false}
use Rattle.wf.proofs.reads_other.Goals as goal

pub returns-then-r-ne-SELECT : goal.returns-then-r-ne-SELECT
returns-then-r-ne-SELECT c = record { test = λ e t. absurd (c.if-r-ne-SELECT.true t) }

pub returns : goal.returns
returns c = record { test = λ e t. eqb-true _ _ (not-false _ e) }
