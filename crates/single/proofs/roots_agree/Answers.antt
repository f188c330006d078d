-- Both lists are the case's, and the answer is compared. Assumes nothing.
use mathlib.Core.Path.{◌∙◌, sym, ap}
use mathlib.Core.List.{List}
use Prim.Native.Nat.{ℕ}
use mathlib.Core.Bool.{false≢true}
use Rattle.answers.specs.Answer.{words_of}
use Rattle.widths.specs.Widths.{roots_answer}
use Rattle.cases.specs.Case.{given}
use Rattle.single.proofs.roots_agree.Goals as goal

pub returns-then-not-has_shape : goal.returns-then-not-has_shape
returns-then-not-has_shape c = record { agreed = λ e. absurd (false≢true e) }

pub returns : goal.returns
returns c = record {
  agreed =
      let w = c.args.words.now in
      let widths = ap (λ (x : List ℕ). words_of (roots_answer x (given w 1))) (sym c.given-widths.ensures.list) in
      let roots =
      ap (λ (x : List ℕ). words_of (roots_answer c.given-widths.result.now x)) (sym c.given.ensures.list) in
      λ e. (
        sym c.has_shape.ensures.shape ∙ c.if-not-has_shape.false,
        widths
            ∙ roots ∙ sym c.gilfrunt_roots-a.ensures.answer ∙ c.same_answer.ensures.equal.0 e,
      );
}
