-- What is left of the lists leads to the same place. Assumes nothing.
use Rattle.std.proofs.Common.{◌≡◌, ◌+◌, ◌-◌, ◌≤◌, max, length}
use Rattle.cases.specs.Case.{after_lists}
use Rattle.cases.proofs.after_lists.Given as goal

abbrev pub invariant-loop : goal.invariant-loop
invariant-loop l = record {
  same : after_lists l.words l.from l.lists ≡ after_lists l.words l.at (l.lists - l.counter);
  most : l.at ≤ max l.from (length l.words + 1);
}
