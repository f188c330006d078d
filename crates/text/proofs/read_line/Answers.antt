-- The goals that search leaves open. Assumes nothing.
use Rattle.std.proofs.Common.{sym, ◌∙◌, length}
use Rattle.text.proofs.Line.{words-none, words_last, words_more, words-full}
use Rattle.text.proofs.read_line.Goals as goal

pub returns-in_default-clause-words : goal.returns-in_default-clause-words
returns-in_default-clause-words c =
    let l = c.loop-n in
    words-none c.args.line.now l.at l.n _ l.out c.loop-n-test.true (sym c.in_default.is ∙ c.next_word.ensures.word) ∙ sym l.invariant.same

pub returns-then-line-word-clause-words : goal.returns-then-line-word-clause-words
returns-then-line-word-clause-words c =
    let l = c.loop-n in
    words_last c.args.line.now l.at l.n _ l.out c.loop-n-test.true c.in-Some.word c.in-Some.ensures.word l.auto.out c.if-line-word.true
    ∙ sym l.invariant.same

pub loop-n-preserved : goal.loop-n-preserved
loop-n-preserved c =
    let l = c.loop-n in
    record {
      inside = c.if-line-word.false;
      same =
          l.invariant.same ∙ words_more c.args.line.now l.at l.n _ l.out c.loop-n-test.true c.in-Some.word c.in-Some.ensures.word l.auto.out
          c.if-line-word.false;
    }

pub returns-clause-words : goal.returns-clause-words
returns-clause-words c =
    let l = c.loop-n in
    words-full c.args.line.now l.at l.n (length c.args.out.now) _ c.loop-n-test.false ∙ sym l.invariant.same
