-- A stretch past the list, or the search over its rows. Assumes nothing.
use Prim.Native.Nat.{◌+◌, ◌<◌, ◌≤◌}
use mathlib.Core.Path.{◌∙◌}
use native.Mathlib.Omega.{arith}
use borrow.Author.Tests.{le-leb, lt-leb}
use lib.ListN.{length}
use Rattle.keys.proofs.Order.{fails, passes, alone}
use Rattle.entries.proofs.args_in_range.Goals as goal

pub returns-then-m-s : goal.returns-then-m-s
returns-then-m-s c = record {
  test =
      let s = c.args in
      let h : length s.cargs.now < s.s + s.k = omega arith in
      fails _ (lt-leb _ _ h);
}

pub returns-then-m-s-2 : goal.returns-then-m-s-2
returns-then-m-s-2 c = record {
  test =
      let s = c.args in
      let h : length s.cargs.now < s.s + s.k = omega arith in
      fails _ (lt-leb _ _ h);
}

pub returns : goal.returns
returns c = record {
  test =
      let s = c.args in
      let h : s.s + s.k ≤ length s.cargs.now = omega arith in
      c.list_wf.ensures.test ∙ alone _ ∙ passes _ (le-leb _ _ h);
}
