-- The line of the words of the verdict; where it is `accepted`, the verdict is. Assumes nothing.
use mathlib.Core.Path.{◌≡◌, ap, ◌∙◌}
use Rattle.answers.specs.Answer.{Answer}
use Rattle.answers.specs.Answer.{words_of}
use Rattle.judge.specs.Judge.{verdict_by}
use Rattle.line.specs.Line.{line_of}
use Rattle.printed.proofs.Sound.{line-means}
use Rattle.printed.proofs.verdict_line.Goals as goal

pub returns : goal.returns
returns c =
    let v = c.verdict-answer.ensures in
    -- the answer is that of the check that was asked for
    let answer-is : c.verdict-answer.result ≡ verdict_by c.args.strict c.args.book.now = v.answer in
    let l = c.write_line.ensures.line ∙ ap line_of c.from.ensures in
    let r = c.verdict-answer.result in
    record {
      fits = c.write_line.ensures.fits;
      line = l ∙ ap (λ (a : Answer). line_of (words_of a)) answer-is;
      sound = line-means _ _ r l v.sound;
      choices = line-means _ _ r l v.choices;
    }
