-- The copies are the case's lists. Assumes nothing.
use mathlib.Core.Path.{◌∙◌}
use Rattle.paired.proofs.Same.{check-lent}
use Rattle.paired.proofs.lowering_agrees.Goals as goal

pub returns : goal.returns
returns c = record {
  agreed =
      let a = c.args in
      let ws0 = c.lend-n0.ensures.copied ∙ c.given.ensures.list in
      let ws1 = c.lend-n1.ensures.copied ∙ c.given-2.ensures.list in
      let classes = c.lend-n2.ensures.copied ∙ c.given-3.ensures.list in
      let entries = c.lend-n3.ensures.copied ∙ c.given-4.ensures.list in
      λ e. check-lent a.strict a.second a.words.now a.ebits.now a.tbits.now ws0 ws1 classes entries
      (c.same_check.ensures.agreed e);
}
