-- The copies are the case's lists. Assumes nothing.
use mathlib.Core.Path.{◌∙◌, sym}
use mathlib.Core.Bool.{false≢true}
use Rattle.single.proofs.Same.{values-copied}
use Rattle.cases.specs.Case.{given}
use Rattle.single.proofs.values_agree.Goals as goal

pub returns-then-not-has_shape : goal.returns-then-not-has_shape
returns-then-not-has_shape c = record { agreed = λ e. absurd (false≢true e) }

pub returns-then-not-copy_bytes : goal.returns-then-not-copy_bytes
returns-then-not-copy_bytes c = record { agreed = λ e. absurd (false≢true e) }

pub returns : goal.returns
returns c = record {
  agreed =
      let w = c.args.words.now in
      let bits = c.copy_bytes.ensures.copied (c.if-not-copy_bytes.false) ∙ c.given-bits.ensures.list in
      let widths = c.lend-n.ensures.copied ∙ c.given.ensures.list in
      let numbers = c.lend-m.ensures.copied ∙ c.given-2.ensures.list in
      λ e. (
        sym c.has_shape.ensures.shape ∙ c.if-not-has_shape.false,
        values-copied (given w 0) (given w 2) bits widths numbers (c.same_values.ensures.agreed e),
      );
}
