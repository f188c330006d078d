-- Cut, its variable, its own tests: the definition's order. Assumes nothing.
use Prim.Native.Nat.{◌+◌, ◌*◌, ◌≤◌}
use mathlib.Core.Path.{◌∙◌, sym}
use native.Mathlib.Omega.{arith}
use lib.ListN.{length}
use Rattle.entries.specs.Entries.{stride}
use Rattle.entries.proofs.Entry.{good-cut, whole-at, good-taken, good-own}
use Rattle.entries.proofs.entry_good.Goals as goal
use Rattle.entries.proofs.entry_good.Goals.{Else-table-off}

pub returns-then-table-off : goal.returns-then-table-off
returns-then-table-off c = record {
  test =
      let s = c.args in
      good-cut s.which _ _ _ _ _ s.w s.off c.requires.w_value.0 c.requires.w_value.1 (omega arith);
}

-- the entry is whole
whole : (c : Else-table-off)
    → let s = c.args in
    s.k * stride s.which + stride s.which ≤ length s.table.now
whole c =
    let s = c.args in
    whole-at s.which s.table.now s.target.now s.ws.now s.cls.now s.k s.w s.off c.requires.w_value.0
    c.requires.w_value.1
    (omega arith)

pub sort_in-sort-requires : goal.sort_in-sort-requires
sort_in-sort-requires c = record {
  which_in_bounds = whole (goal.at.sort_in-sort-requires c).Else-table-off;
  sorted = c.requires.sorted;
}

pub returns-then-not-free_var : goal.returns-then-not-free_var
returns-then-not-free_var c = record {
  test =
      let s = c.args in
      good-taken s.which _ _ _ _ _ s.w s.off c.requires.w_value.0 c.requires.w_value.1 (omega arith)
      (rw c.sort_in-sort.ensures.sort.1 at (sym c.free_var.ensures.test ∙ c.if-not-free_var.true));
}

pub own_good-requires : goal.own_good-requires
own_good-requires c = record {
  which_in_bounds = whole (goal.at.own_good-requires c).Else-table-off;
  args_before = c.requires.args_before;
}

pub returns : goal.returns
returns c = record {
  test =
      let s = c.args in
      rw c.sort_in-sort.ensures.sort.0 at c.own_good.ensures.test
      ∙ rw c.requires.cls_len
      (good-own s.which _ _ _ _ _ s.w s.off c.requires.w_value.0 c.requires.w_value.1 (omega arith)
      (rw c.sort_in-sort.ensures.sort.1 at (sym c.free_var.ensures.test ∙ c.if-not-free_var.false)));
}
