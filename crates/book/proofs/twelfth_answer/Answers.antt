-- The book's answer where it refuses; of a good book, its edition. Assumes nothing.
use mathlib.Core.Path.{sym, ap, ◌∙◌}
use Rattle.std.proofs.lemmas.Result.{err_from_is_err_and}
use Rattle.answers.specs.Answer.{is_accepted}
use Rattle.book.proofs.Shape.{first_word, twelfth-refused, twelfth-given, twelfth-lacking}
use Rattle.book.proofs.twelfth_answer.Goals as goal

pub returns-in_err-shape : goal.returns-in_err-shape
returns-in_err-shape c = record {
  answer =
      let q = err_from_is_err_and c.from_residual.result c.from_residual.ensures.1 in
      rw (q.1, q.2)
      (sym c.in_err-shape.was ∙ twelfth-refused c.args.book.now _ c.requires (ap is_accepted c.in_err-shape.was));
}

pub is_second-requires : goal.is_second-requires
is_second-requires c = first_word c.args.book.now (rw c.requires at (ap is_accepted c.in_ok-shape.was))

pub returns-then-is_second : goal.returns-then-is_second
returns-then-is_second c = record {
  answer =
      twelfth-given c.args.book.now _ c.requires (ap is_accepted c.in_ok-shape.was) (sym c.is_second.ensures.test ∙ c.if-is_second.true);
}

pub returns : goal.returns
returns c = record {
  answer =
      twelfth-lacking c.args.book.now _ c.requires (ap is_accepted c.in_ok-shape.was) (sym c.is_second.ensures.test ∙ c.if-is_second.false);
}
