-- The lists that the library is lent are the case's, by the calls that took them. Assumes nothing.
use Rattle.paired.proofs.Same.{check-call}
use Rattle.paired.proofs.call_check.Goals as goal

pub returns : goal.returns
returns c = record {
  outcome =
      let s = c.args in
      check-call s.strict s.second s.words.now s.ebits.now s.tbits.now s.ws0.now s.ws1.now s.classes.now s.entries.now
      c.given.ensures.list c.given-2.ensures.list c.given-3.ensures.list c.given-4.ensures.list c.given-5.ensures.list
      c.given-6.ensures.list
      c.given-7.ensures.list c.given-8.ensures.list c.given-9.ensures.list c.sorts_given.ensures.edition c.check.ensures.outcome;
}
