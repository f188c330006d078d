-- The copies are the case's lists. Assumes nothing.
use mathlib.Core.Path.{◌∙◌, sym}
use mathlib.Core.Bool.{false≢true}
use Rattle.single.proofs.Same.{widths-copied}
use Rattle.single.proofs.widths_agree.Goals as goal

pub returns-then-not-has_shape : goal.returns-then-not-has_shape
returns-then-not-has_shape c = record { agreed = λ e. absurd (false≢true e) }

pub returns-then-not-copy_bytes : goal.returns-then-not-copy_bytes
returns-then-not-copy_bytes c = record { agreed = λ e. absurd (false≢true e) }

pub returns : goal.returns
returns c = record {
  agreed =
      let a = c.args in
      let bits = c.copy_bytes.ensures.copied (c.if-not-copy_bytes.false) ∙ c.given-bits.ensures.list in
      let lent = c.lend-n.ensures.copied ∙ c.given.ensures.list in
      λ e. (
        sym c.has_shape.ensures.shape ∙ c.if-not-has_shape.false,
        widths-copied a.source a.second a.words.now bits lent (c.same_widths.ensures.agreed e),
      );
}
