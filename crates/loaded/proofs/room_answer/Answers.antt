-- The counts by the number of words of sections 1 and 9, then the room for all words. Assumes nothing.
use Prim.Native.Nat.{ℕ}
use mathlib.Core.Path.{◌≡◌, sym, ap, ◌∙◌}
use native.Mathlib.Omega.{arith}
use lib.ListN.{length}
use Rattle.std.proofs.lemmas.Result.{err_from_is_err_and}
use Rattle.answers.specs.Answer.{is_accepted}
use Rattle.contents.proofs.Editions.{sections-low}
use Rattle.book.proofs.Shape.{first_word}
use Rattle.bodies.specs.Words.{loaded}
use Rattle.loaded.specs.Held.{held, book_words}
use Rattle.loaded.proofs.Held.{counts-refused, words-short, room-good}
use borrow.Author.Rules.{rules}
use Rattle.loaded.proofs.room_answer.Goals as goal
use Rattle.loaded.proofs.room_answer.Goals.{After-offset}

pub word_count-requires : goal.word_count-requires
word_count-requires c = let h = sections-low c.args.book.bytes.now in search rules

pub word_count-requires-2 : goal.word_count-requires-2
word_count-requires-2 c = let h = sections-low c.args.book.bytes.now in search rules

pub returns-in_err-a : goal.returns-in_err-a
returns-in_err-a c = record {
  answer =
      let q = err_from_is_err_and c.from_residual.result c.from_residual.ensures.1 in
      let s = c.args in
      let b = s.book.bytes.now in
      rw (q.1, q.2)
      (sym c.in_err-a.was
      ∙ counts-refused b _ _ _ _ _ _ (c.count_answer-a.ensures.answer (held b).source (held b).target
      (sym c.word_count.ensures.count) (sym c.word_count-2.ensures.count))
      (ap is_accepted c.in_err-a.was));
}

pub sections-n-requires : goal.sections-n-requires
sections-n-requires c = first_word c.args.book.bytes.now c.args.book.good

pub offset-requires : goal.offset-requires
offset-requires c = omega (arith, c.sections-n.ensures.count, sections-low c.args.book.bytes.now)

-- all words are counted
counted : (c : After-offset)
    → c.offset.result ≡ length (book_words c.args.book.bytes.now)
counted c =
    let b = c.args.book.bytes.now in
    let e : c.offset.result ≡ length (loaded b c.sections-n.result) = c.offset.ensures.count in
    e ∙ ap (λ (n : ℕ). length (loaded b n)) c.sections-n.ensures.count

pub returns-then-room-offset : goal.returns-then-room-offset
returns-then-room-offset c = record {
  answer =
      let b = c.args.book.bytes.now in
      words-short b _ _ _ _ _ _ (c.count_answer-a.ensures.answer (held b).source (held b).target
      (sym c.word_count.ensures.count) (sym c.word_count-2.ensures.count))
      (ap is_accepted c.in_ok-a.was) _ (counted (goal.at.returns-then-room-offset c).After-offset)
      c.if-room-offset.true;
}

pub returns : goal.returns
returns c = record {
  answer =
      let b = c.args.book.bytes.now in
      room-good b _ _ _ _ _ _ (c.count_answer-a.ensures.answer (held b).source (held b).target
      (sym c.word_count.ensures.count) (sym c.word_count-2.ensures.count))
      (ap is_accepted c.in_ok-a.was) _ (counted (goal.at.returns c).After-offset) c.if-room-offset.false;
}
