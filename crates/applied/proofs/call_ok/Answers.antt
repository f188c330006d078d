-- The definition's seven tests in its order; an entry and its arguments are read only after the tests that they lie in their lists. Assumes nothing.
use Prim.Native.Nat.{◌+◌, ◌≤◌}
use mathlib.Core.Path.{◌≡◌, sym, ap, ◌∙◌}
use mathlib.Core.Bool.{true, not}
use native.Mathlib.Omega.{arith}
use borrow.Author.Tests.{le-leb, eq-eqb, ne_eqb}
use lib.ListN.{length, get_or}
use Rattle.lists.proofs.Choice.{last-test}
use Rattle.lists.proofs.Tests.{within-le}
use Rattle.lists.specs.Tests.{all}
use Rattle.rows.specs.declared.Graph.TheVariants.{Target}
use Rattle.rows.specs.declared.Node.TheVariants.{Var}
use Rattle.rows.specs.Row.{row_at}
use Rattle.rows.specs.Tags.{either}
use Rattle.lowering.specs.Images.{row_is}
use Rattle.lowering.specs.Matching.{call_matches}
use Rattle.applied.proofs.call_ok.Goals as goal
use Rattle.applied.proofs.call_ok.Goals.{Else-not-call_class, Else-not-row_is_var, Else-not-within}

-- what each test has said: the image is a Var of the width, of a call's class, its entry lies in the table
image-var : (c : Else-not-row_is_var) → (let s = c.args in row_is (row_at Target s.asked.now.target.rows.now s.r) (Var (get_or s.e 2 0)) ≡ true)
image-var c = sym (rw c.row.ensures.row at c.row_is_var.ensures.test) ∙ c.if-not-row_is_var.false

class-call : (c : Else-not-call_class) → either (get_or c.args.cls.now c.args.r 0) 3 5 ≡ true
class-call c = sym c.call_class.ensures.test ∙ c.if-not-call_class.false

entry_in : (c : Else-not-within) → get_or c.args.ent.now c.args.r 0 + 4 ≤ length c.args.asked.now.calls.now
entry_in c =
    let s = c.args in
    within-le (length s.asked.now.calls.now) (get_or s.ent.now s.r 0) 4 _ c.within.ensures.test (ap not c.if-not-within.false)

pub returns-then-not-row_is_var : goal.returns-then-not-row_is_var
unfolding call_matches all
returns-then-not-row_is_var c = record { test = rw (sym (rw c.row.ensures.row at c.row_is_var.ensures.test) ∙ c.if-not-row_is_var.true) }

pub returns-then-not-call_class : goal.returns-then-not-call_class
unfolding call_matches all
returns-then-not-call_class c = record {
  test =
      let p = goal.at.returns-then-not-call_class c in
      rw (image-var p.Else-not-row_is_var, sym c.call_class.ensures.test ∙ c.if-not-call_class.true);
}

pub returns-then-not-within : goal.returns-then-not-within
unfolding call_matches all
returns-then-not-within c = record {
  test =
      let p = goal.at.returns-then-not-within c in
      rw (image-var p.Else-not-row_is_var, class-call p.Else-not-call_class, sym c.within.ensures.test ∙ c.if-not-within.true);
}

pub overflow_add-at : goal.overflow_add-at
overflow_add-at c = omega (arith, entry_in (goal.at.overflow_add-at c).Else-not-within)

pub offset_bounds-calls-at : goal.offset_bounds-calls-at
offset_bounds-calls-at c = omega (arith, entry_in (goal.at.offset_bounds-calls-at c).Else-not-within)

pub bounds-calls-at : goal.bounds-calls-at
bounds-calls-at c = omega (arith, entry_in (goal.at.bounds-calls-at c).Else-not-within)

pub returns-then-calls-at : goal.returns-then-calls-at
unfolding call_matches all
returns-then-calls-at c = record {
  test =
      let p = goal.at.returns-then-calls-at c in
      rw (image-var p.Else-not-row_is_var, class-call p.Else-not-call_class, le-leb _ _ (entry_in p.Else-not-within), ne_eqb _ _ c.if-calls-at.true);
}

pub overflow_add-at-2 : goal.overflow_add-at-2
overflow_add-at-2 c = omega (arith, entry_in (goal.at.overflow_add-at-2 c).Else-not-within)

pub offset_bounds-calls-at-2 : goal.offset_bounds-calls-at-2
offset_bounds-calls-at-2 c = omega (arith, entry_in (goal.at.offset_bounds-calls-at-2 c).Else-not-within)

pub bounds-calls-at-2 : goal.bounds-calls-at-2
bounds-calls-at-2 c = omega (arith, entry_in (goal.at.bounds-calls-at-2 c).Else-not-within)

pub returns-then-calls-at-2 : goal.returns-then-calls-at-2
unfolding call_matches all
returns-then-calls-at-2 c = record {
  test =
      let p = goal.at.returns-then-calls-at-2 c in
      rw (
        image-var p.Else-not-row_is_var,
        class-call p.Else-not-call_class,
        le-leb _ _ (entry_in p.Else-not-within),
        eq-eqb _ _ c.if-calls-at.false,
        ne_eqb _ _ c.if-calls-at-2.true,
      );
}

pub overflow_add-cs : goal.overflow_add-cs
overflow_add-cs c = omega (arith, entry_in (goal.at.overflow_add-cs c).Else-not-within)

pub offset_bounds-calls-at-3 : goal.offset_bounds-calls-at-3
offset_bounds-calls-at-3 c = omega (arith, entry_in (goal.at.offset_bounds-calls-at-3 c).Else-not-within)

pub bounds-calls-at-3 : goal.bounds-calls-at-3
bounds-calls-at-3 c = omega (arith, entry_in (goal.at.bounds-calls-at-3 c).Else-not-within)

pub returns-then-not-within-2 : goal.returns-then-not-within-2
unfolding call_matches all
returns-then-not-within-2 c = record {
  test =
      let p = goal.at.returns-then-not-within-2 c in
      rw (
        image-var p.Else-not-row_is_var,
        class-call p.Else-not-call_class,
        le-leb _ _ (entry_in p.Else-not-within),
        eq-eqb _ _ c.if-calls-at.false,
        eq-eqb _ _ c.if-calls-at-2.false,
        sym c.within-2.ensures.test ∙ c.if-not-within-2.true,
      );
}

pub args_match-requires : goal.args_match-requires
args_match-requires c = record {
  args_within = c.requires.args_within;
  k_in_bounds = within-le (length c.args.asked.now.cargs.now) _ (get_or c.args.e 4 0) _ c.within-2.ensures.test (ap not c.if-not-within-2.false);
}

pub returns : goal.returns
unfolding call_matches all
returns c = record {
  test =
      let p = goal.at.returns c in
      rw (
        image-var p.Else-not-row_is_var,
        class-call p.Else-not-call_class,
        le-leb _ _ (entry_in p.Else-not-within),
        eq-eqb _ _ c.if-calls-at.false,
        eq-eqb _ _ c.if-calls-at-2.false,
        sym c.within-2.ensures.test ∙ c.if-not-within-2.false,
        c.args_match.ensures.test,
      )
      (last-test _);
}
