-- Number, place and detail, each by its word. Assumes nothing.
use mathlib.Core.Path.{◌≡◌, refl, sym, ◌∙◌}
use mathlib.Core.Bool.{Bool, true, false, ◌&&◌, false≢true}
use borrow.Author.Tests.{eq-eqb, eqb-true}
use Rattle.cases.proofs.Case.{number_is, place_is, detail-is, answer-is}
use Rattle.cases.proofs.same_answer.Goals as goal

both : (x y : Bool) → (x && y) ≡ true → (x ≡ true) × (y ≡ true)
both true y e = (refl, e)
both false y e = absurd (false≢true e)

pub returns : goal.returns
returns c = record {
  equal =
      let g = c.args in
      let p = c.answer_at-at.ensures.place.0 in
      let n = c.word_at-number.ensures.word in
      let k = c.word_at-place.ensures.word in
      let d = c.word_at-detail.ensures.word in (
        λ e.
            let q = both _ _ (sym c.eq.ensures ∙ e) in
            let r = both _ _ q.1 in
            answer-is g.words.now g.a _ p (eqb-true _ _ q.0 ∙ n) (eqb-true _ _ r.0 ∙ k) (eqb-true _ _ r.1 ∙ d),
        λ e.
            c.eq.ensures
            ∙ rw (
              eq-eqb _ _ (number_is g.words.now g.a _ p _ n e),
              eq-eqb _ _ (place_is g.words.now g.a _ p _ k e),
              eq-eqb _ _ (detail-is g.words.now g.a _ p _ d e),
            ),
      );
}
