-- Both tags in the definition's order. Assumes nothing.
use mathlib.Core.Path.{◌∙◌, sym, ap}
use Rattle.std.specs.Option.{is_some}
use Rattle.images.proofs.Constants.{both-some, both-none}
use Rattle.images.proofs.both_const.Goals as goal

pub returns-then-is_some : goal.returns-then-is_some
returns-then-is_some c = record {
  test =
      c.is_some-then-is_some.ensures ∙ ap is_some c.ext_const-then-is_some.ensures.constant
      ∙ both-some _ _ (sym (ap is_some c.ext_const.ensures.constant) ∙ sym c.is_some.ensures ∙ c.if-is_some.true);
}

pub returns-else-is_some : goal.returns-else-is_some
returns-else-is_some c = record {
  test = c.if-is_some.false ∙ both-none _ _ (sym (ap is_some c.ext_const.ensures.constant) ∙ sym c.is_some.ensures ∙ c.if-is_some.false);
}
