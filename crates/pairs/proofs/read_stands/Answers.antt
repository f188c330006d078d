-- The position, then the root by its antecedent, which is one equality. Assumes nothing.
use mathlib.Core.Path.{◌∙◌, sym}
use native.Mathlib.Omega.{arith}
use Rattle.lists.specs.Tests.{all}
use Rattle.lowering.specs.Roots.{all_equal}
use Rattle.lists.proofs.Choice.{last-test}
use Rattle.leads.proofs.Shape.{by-antecedent, no-antecedent}
use Rattle.pairs.proofs.read_stands.Goals as goal

pub returns-in_default : goal.returns-in_default
unfolding all
returns-in_default c = record { test = rw (sym c.in_default.ensures.lookup.0) }

pub returns-in_default-implication_shape : goal.returns-in_default-implication_shape
unfolding all
returns-in_default-implication_shape c = record {
  test =
      let found = c.in-Some.ensures.lookup in
      let none = rw (found.3.1 0) at (sym c.implication_shape.ensures.row ∙ c.in_default-implication_shape.is) in
      rw (sym found.0, no-antecedent _ _ _ 1 _ _ _ (omega arith) none);
}

pub returns : goal.returns
unfolding all all_equal
returns c = record {
  test =
      let s = c.args in
      let found = c.in-Some.ensures.lookup in
      let some = rw (found.3.1 0) at (sym c.implication_shape.ensures.row ∙ c.in-Some-implication_shape.is) in
      rw (sym found.0)
      (c.is_eq.ensures.test ∙ sym (sym (last-test _) ∙ by-antecedent s.target.now (λ _. s.xp) (λ _. s.xq) 1 _ _ _ (omega arith) _ some));
}
