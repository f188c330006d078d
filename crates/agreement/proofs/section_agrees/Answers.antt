-- The copy is the case's book. Assumes nothing.
use mathlib.Core.Path.{◌∙◌, sym, subst}
use mathlib.Core.List.{List}
use Prim.Native.Nat.{ℕ}
use lib.ListN.{get_or}
use mathlib.Core.Bool.{false≢true}
use Rattle.cases.specs.Case.{given}
use Rattle.agreement.specs.Agrees.{SameSection}
use Rattle.agreement.proofs.section_agrees.Goals as goal

pub returns-then-not-has_shape : goal.returns-then-not-has_shape
returns-then-not-has_shape c = record { agreed = λ e. absurd (false≢true e) }

pub returns-then-not-copy_bytes : goal.returns-then-not-copy_bytes
returns-then-not-copy_bytes c = record { agreed = λ e. absurd (false≢true e) }

pub returns : goal.returns
returns c = record {
  agreed =
      let w = c.args.words.now in
      let book =
      c.copy_bytes.ensures.copied (c.if-not-copy_bytes.false)
      ∙ c.given-list.ensures.list in
      λ e. (
        sym c.has_shape.ensures.shape
            ∙ c.if-not-has_shape.false,
        (c.same_section.ensures.agreed e).0,
        subst (λ (l : List ℕ). SameSection w l (get_or (given w 1) 0 0)) book (c.same_section.ensures.agreed e).1,
      );
}
