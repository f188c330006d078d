-- The first bad entry, or none. Assumes nothing.
use mathlib.Core.Path.{sym, ◌∙◌}
use native.Mathlib.Omega.{arith}
use Rattle.sorts.proofs.Sorts.{sort-bad, sort-none}
use Rattle.sorts.proofs.sort_answer.Goals as goal

pub returns-then-not-sort_good : goal.returns-then-not-sort_good
returns-then-not-sort_good c = record {
  answer = rw c.in-Some.is
      (sym (sort-bad c.in-Some.table.now c.loop-k.k (omega arith) (sym c.sort_good.ensures.test ∙ c.if-not-sort_good.true) c.loop-k.invariant));
}

pub returns : goal.returns
returns c = record { answer = rw c.in-Some.is (sym (sort-none c.in-Some.table.now c.loop-k.k (omega arith) c.loop-k.invariant)) }
