-- The source's roots, then the target's: each return is the law of its refusal. Assumes nothing.
use Rattle.assertions.proofs.Bits.{not-asked, source-19, target-19, one-bit-roots}
use Rattle.assertions.proofs.root_answer.Goals as goal

pub returns-then-not-strict : goal.returns-then-not-strict
returns-then-not-strict c = record {
  answer = let s = c.args in not-asked s.strict s.ws0.now s.eroots.now s.ws1.now s.troots.now c.if-not-strict.true;
}

pub returns-then-source-eroots : goal.returns-then-source-eroots
returns-then-source-eroots c = record {
  answer =
      let s = c.args in
      source-19 s.strict s.ws0.now s.eroots.now s.ws1.now s.troots.now c.if-not-strict.false _ c.roots_wf-source.ensures.position
      c.if-source-eroots.true;
}

pub returns-then-target-troots : goal.returns-then-target-troots
returns-then-target-troots c = record {
  answer =
      let s = c.args in
      target-19 s.strict s.ws0.now s.eroots.now s.ws1.now s.troots.now c.if-not-strict.false _ c.roots_wf-source.ensures.position
      c.if-source-eroots.false _ c.roots_wf-target.ensures.position c.if-target-troots.true;
}

pub returns : goal.returns
returns c = record {
  answer =
      let s = c.args in
      one-bit-roots s.strict s.ws0.now s.eroots.now s.ws1.now s.troots.now c.if-not-strict.false _
      c.roots_wf-source.ensures.position c.if-source-eroots.false _ c.roots_wf-target.ensures.position c.if-target-troots.false;
}
