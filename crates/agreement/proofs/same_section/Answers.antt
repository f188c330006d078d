-- The number is the one word of list 1. Assumes nothing.
use mathlib.Core.Path.{◌∙◌, sym, ap, subst}
use mathlib.Core.List.{List}
use Prim.Native.Nat.{ℕ}
use lib.ListN.{length, get_or}
use mathlib.Core.Bool.{false≢true}
use Rattle.agreement.specs.Agrees.{SameSection}
use Rattle.agreement.proofs.same_section.Goals as goal

pub returns-then-numbers-ne1 : goal.returns-then-numbers-ne1
returns-then-numbers-ne1 c = record { agreed = λ e. absurd (false≢true e) }

pub returns : goal.returns
returns c = record {
  agreed =
      let a = c.args in
      let g = c.given-numbers.ensures.list in
      λ e. (
        ap length (sym g) ∙ c.if-numbers-ne1.false,
        subst (λ (l : List ℕ). SameSection a.words.now a.book.now (get_or l 0 0)) g
            (c.same_stretch.ensures.agreed e),
      );
}
