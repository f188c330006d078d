-- The goals that search leaves open. Assumes nothing.
use Prim.Native.Nat.{◌<◌, ◌-◌}
use mathlib.Core.Path.{◌≡◌, ◌∙◌, sym}
use mathlib.Core.Bool.{true}
use native.Mathlib.Nat.{add-zero}
use native.Mathlib.Omega.{arith}
use borrow.Author.Tests.{eq-eqb, ne_eqb}
use lib.Dec.{eqb}
use Rattle.rows.specs.declared.Graph.TheVariants.{Target}
use Rattle.rows.specs.Row.{row_count}
use Rattle.lowering.specs.Images.{tag_at}
use Rattle.leads.proofs.Shape.{all-out}
use Rattle.congruence.proofs.Nest.{all_one, all-tag, all-last, all_rest}
use Rattle.congruence.proofs.ante_ok.Goals as goal
use Rattle.congruence.proofs.ante_ok.Goals.{Else-n-cur, Else-d-ne-BOOL_AND}

-- the tests that have passed in the loop
inside : (c : Else-n-cur) → c.loop-l.cur < row_count Target c.args.target.now
inside c = rw c.row_count-n.ensures.count at c.if-n-cur.false

is-and : (c : Else-d-ne-BOOL_AND) → eqb (tag_at c.args.target.now c.loop-l.cur) 30 ≡ true
is-and c = eq-eqb _ _ (rw c.row-d.ensures.row at c.if-d-ne-BOOL_AND.false)

pub returns-then-n-cur : goal.returns-then-n-cur
returns-then-n-cur c = record {
  test = sym (c.loop-l.invariant.1 ∙ all-out _ _ _ (c.loop-l.l - 1) c.loop-l.cur (rw c.row_count-n.ensures.count at c.if-n-cur.true));
}

pub returns-then-d-ne-BOOL_AND : goal.returns-then-d-ne-BOOL_AND
returns-then-d-ne-BOOL_AND c = record {
  test =
      let at = goal.at.returns-then-d-ne-BOOL_AND c in
      sym
      (c.loop-l.invariant.1
      ∙ all-tag _ _ _ (c.loop-l.l - 1) c.loop-l.cur (omega arith) (inside at.Else-n-cur)
      (ne_eqb _ _ (rw c.row-d.ensures.row at c.if-d-ne-BOOL_AND.true)));
}

pub returns-then-not-is_eq : goal.returns-then-not-is_eq
returns-then-not-is_eq c = record {
  test =
      let at = goal.at.returns-then-not-is_eq c in
      sym
      (c.loop-l.invariant.1
      ∙ all-last _ _ _ (c.loop-l.l - 1) c.loop-l.cur (omega arith) (inside at.Else-n-cur) (is-and at.Else-d-ne-BOOL_AND)
      (rw c.row-d.ensures.row at (sym c.is_eq.ensures.test ∙ c.if-not-is_eq.true)));
}

pub loop-l-preserved : goal.loop-l-preserved
loop-l-preserved c =
    let at = goal.at.loop-l-preserved c in (
      omega arith,
      c.loop-l.invariant.1
          ∙ all_rest _ _ _ (c.loop-l.l - 1) c.loop-l.cur (omega arith) (inside at.Else-n-cur) (is-and at.Else-d-ne-BOOL_AND)
          (rw c.row-d.ensures.row at (sym c.is_eq.ensures.test ∙ c.if-not-is_eq.false))
          ∙ rw c.row-d.ensures.row,
    )

pub returns : goal.returns
returns c = record {
  test =
      c.is_eq-2.ensures.test ∙ sym (c.loop-l.invariant.1 ∙ all_one _ _ _ (c.loop-l.l - 1) c.loop-l.cur (omega arith)
      ∙ simp add-zero);
}
