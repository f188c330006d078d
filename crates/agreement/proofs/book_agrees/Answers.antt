-- The copy is the case's book. Assumes nothing.
use mathlib.Core.Path.{◌∙◌, sym, ap}
use mathlib.Core.List.{List}
use Prim.Native.Nat.{ℕ}
use mathlib.Core.Bool.{false≢true}
use Rattle.answers.specs.Answer.{words_of}
use Rattle.judge.specs.Judge.{verdict_by}
use Rattle.agreement.proofs.book_agrees.Goals as goal

pub returns-then-not-has_shape : goal.returns-then-not-has_shape
returns-then-not-has_shape c = record { agreed = λ e. absurd (false≢true e) }

pub returns-then-not-copy_bytes : goal.returns-then-not-copy_bytes
returns-then-not-copy_bytes c = record { agreed = λ e. absurd (false≢true e) }

pub returns : goal.returns
returns c = record {
  agreed =
      let s = c.args in
      let book = c.copy_bytes.ensures.copied (c.if-not-copy_bytes.false) ∙ c.given-list.ensures.list in
      let words =
      c.from.ensures ∙ ap words_of c.verdict-a.ensures.answer
      ∙ ap (λ (x : List ℕ). words_of (verdict_by s.strict x)) book in
      λ e. (sym c.has_shape.ensures.shape ∙ c.if-not-has_shape.false, sym words ∙ c.same_answer.ensures.equal.0 e);
}
