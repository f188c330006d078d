-- The test decides; a read variable that passes is a row, so its class can be written. Assumes nothing.
use mathlib.Core.Path.{refl, sym, ◌∙◌}
use native.Mathlib.Omega.{arith}
use Rattle.ends.proofs.Read.{read-in}
use Rattle.ends.proofs.base_read.Goals as goal

pub returns-then-not-base_read_ok : goal.returns-then-not-base_read_ok
returns-then-not-base_read_ok c = record {
  test = sym (sym c.base_read_ok.ensures.test ∙ c.if-not-base_read_ok.true);
  list = refl;
}

pub offset_bounds-cls-i : goal.offset_bounds-cls-i
offset_bounds-cls-i c = let h = read-in _ _ _ _ _ _ _ (sym c.base_read_ok.ensures.test ∙ c.if-not-base_read_ok.false) in omega (arith, h)

pub bounds-cls-i : goal.bounds-cls-i
bounds-cls-i c = let h = read-in _ _ _ _ _ _ _ (sym c.base_read_ok.ensures.test ∙ c.if-not-base_read_ok.false) in omega (arith, h)

pub returns : goal.returns
returns c = record {
  test = sym (sym c.base_read_ok.ensures.test ∙ c.if-not-base_read_ok.false);
  list = refl;
}
