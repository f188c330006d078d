-- The position, a number of arguments, then the root by its antecedent. Assumes nothing.
use mathlib.Core.Path.{◌∙◌, sym}
use native.Mathlib.Omega.{arith}
use Prim.Native.Nat.{◌<◌}
use Rattle.lists.specs.Tests.{all}
use Rattle.lowering.specs.Roots.{congruent}
use Rattle.lists.proofs.Choice.{last-test}
use Rattle.leads.proofs.Shape.{by-antecedent, no-antecedent}
use Rattle.congruence.proofs.call_stands.Goals as goal

pub returns-in_default : goal.returns-in_default
unfolding all
returns-in_default c = record { test = rw (sym c.in_default.ensures.lookup.0) }

pub returns-then-k-eq0 : goal.returns-then-k-eq0
unfolding all congruent
returns-then-k-eq0 c = record { test = rw (sym c.in-Some.ensures.lookup.0, c.if-k-eq0.true) }

pub returns-in_default-implication_shape : goal.returns-in_default-implication_shape
unfolding all
returns-in_default-implication_shape c = record {
  test =
      let k : 0 < c.args.k = omega arith in
      let found = c.in-Some.ensures.lookup in
      let none = rw (found.3.1 0) at (sym c.implication_shape.ensures.row ∙ c.in_default-implication_shape.is) in
      rw (sym found.0, no-antecedent _ _ _ c.args.k _ _ _ k none);
}

pub returns : goal.returns
unfolding all
returns c = record {
  test =
      let k : 0 < c.args.k = omega arith in
      let found = c.in-Some.ensures.lookup in
      let some = rw (found.3.1 0) at (sym c.implication_shape.ensures.row ∙ c.in-Some-implication_shape.is) in
      rw (sym found.0) (c.ante_ok.ensures.test ∙ sym (sym (last-test _) ∙ by-antecedent _ _ _ c.args.k _ _ _ k _ some));
}
