-- The six tests in their order; a law for each refusal. Assumes nothing.
use Rattle.forms.proofs.Counts.{count-source, count-target, short-1, short-2, short-3, short-4, count-good}
use Rattle.forms.proofs.count_answer.Goals as goal

pub returns-then-source-ne0 : goal.returns-then-source-ne0
returns-then-source-ne0 c = record { answer = let a = c.args in λ s t en em. count-source _ _ a.w0 a.w1 a.c a.e s t en em c.if-source-ne0.true }

pub returns-then-target-ne0 : goal.returns-then-target-ne0
returns-then-target-ne0 c = record {
  answer =
      let a = c.args in λ s t en em. count-target _ _ a.w0 a.w1 a.c a.e s t en em c.if-source-ne0.false c.if-target-ne0.true;
}

pub returns-then-w0-source : goal.returns-then-w0-source
returns-then-w0-source c = record {
  answer =
      let a = c.args in
      λ s t en em. short-1 _ _ a.w0 a.w1 a.c a.e s t en em c.if-source-ne0.false c.if-target-ne0.false c.if-w0-source.true;
}

pub returns-then-w1-n : goal.returns-then-w1-n
returns-then-w1-n c = record {
  answer =
      let a = c.args in
      λ s t en em. short-2 _ _ a.w0 a.w1 a.c a.e s t en em c.if-source-ne0.false c.if-target-ne0.false
      c.if-w0-source.false c.if-w1-n.true;
}

pub returns-then-c-n : goal.returns-then-c-n
returns-then-c-n c = record {
  answer =
      let a = c.args in
      λ s t en em. short-3 _ _ a.w0 a.w1 a.c a.e s t en em c.if-source-ne0.false
      c.if-target-ne0.false c.if-w0-source.false c.if-w1-n.false c.if-c-n.true;
}

pub returns-then-e-n : goal.returns-then-e-n
returns-then-e-n c = record {
  answer =
      let a = c.args in
      λ s t en em. short-4 _ _ a.w0 a.w1 a.c a.e s t en em c.if-source-ne0.false
      c.if-target-ne0.false c.if-w0-source.false c.if-w1-n.false c.if-c-n.false
      c.if-e-n.true;
}

pub returns : goal.returns
returns c = record {
  answer =
      let a = c.args in
      λ s t en em. count-good _ _ a.w0 a.w1 a.c a.e s t en em c.if-source-ne0.false
      c.if-target-ne0.false c.if-w0-source.false c.if-w1-n.false c.if-c-n.false
      c.if-e-n.false;
}
