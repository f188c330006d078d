-- Check on what the book asks. Assumes nothing.
use mathlib.Core.Path.{◌∙◌, ap}
use Rattle.lowering.specs.Lowering.{Lowering}
use Rattle.lowering.specs.Check.{check_by}
use Rattle.loaded.proofs.check_loaded.Goals as goal

pub returns : goal.returns
returns c = record {
  outcome =
      let s = c.args in
      c.check.ensures.outcome ∙ ap (λ (L : Lowering). check_by s.strict L s.ws0.now s.ws1.now s.cls.now s.ent.now) c.asked_by.ensures.lists;
}
