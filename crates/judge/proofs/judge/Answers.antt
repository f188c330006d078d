-- Each return is one law of proofs/Outcome for the bytes of the good book: past the room all five lists are long enough. Assumes nothing.
use mathlib.Core.Path.{◌≡◌, refl, sym, ap, ◌∙◌}
use mathlib.Core.List.{List}
use Prim.Native.Nat.{ℕ}
use lib.ListN.{length}
use Rattle.std.proofs.lemmas.Result.{err_from_is_err_and}
use Rattle.answers.specs.Answer.{is_accepted}
use Rattle.answers.specs.Result.{Result}
use Rattle.lowering.specs.Check.{check_answer_by}
use Rattle.loaded.specs.Held.{held}
use Rattle.judge.specs.Judge.{judge_by}
use Rattle.judge.proofs.Outcome.{room-done, check_done, words_left}
use Rattle.judge.proofs.judge.Goals as goal

pub returns-in_err-room_answer : goal.returns-in_err-room_answer
returns-in_err-room_answer c = record {
  outcome =
      let s = c.args in
      let good = c.in-Ok.good in
      let q = err_from_is_err_and c.from_residual.result c.from_residual.ensures.1 in
      rw (q.1, q.2)
      (room-done s.strict good.bytes.now s.ws0.now s.ws1.now s.cls.now s.ent.now s.words.now _ good.good
      (sym c.in_err-room_answer.was ∙ c.room_answer.ensures.answer) refl
      ∙ ap (λ (b : List ℕ). judge_by s.strict b s.ws0.now s.ws1.now s.cls.now s.ent.now s.words.now) c.in-Ok.ensures.answer.0);
}

pub returns : goal.returns
returns c = record {
  outcome =
      let s = c.args in
      let good = c.in-Ok.good in
      let b = good.bytes.now in
      let roomy = sym (ap is_accepted c.room_answer.ensures.answer) ∙ ap is_accepted c.in_ok-room_answer.was in
      let o = c.check_loaded-a.ensures.outcome in
      -- the answer on the book's lists is that of the check that was asked for
      let answer-is : c.check_loaded-a.result
      ≡ check_answer_by s.strict (held b) (length s.ws0.now) (length s.ws1.now) (length s.cls.now) (length s.ent.now) =
      ap (λ (r : Result). r.answer) o in
      check_done s.strict b s.ws0.now s.ws1.now s.cls.now s.ent.now s.words.now _ good.good roomy answer-is _
      (ap (λ (r : Result). r.lists) o) _
      (words_left b _ _ _ _ (length s.words.now) c.leave.ensures.list c.is_ok.ensures.value c.load.auto.words)
      ∙ ap (λ (b : List ℕ). judge_by s.strict b s.ws0.now s.ws1.now s.cls.now s.ent.now s.words.now) c.in-Ok.ensures.answer.0;
}
