-- The rows and the side list that the library is lent are the case's. Assumes nothing.
use Rattle.single.proofs.Same.{source-call, target-call}
use Rattle.single.proofs.call_widths.Goals as goal

pub returns-then-source : goal.returns-then-source
returns-then-source c = record {
  outcome =
      let a = c.args in
      source-call a.second a.words.now a.bits.now a.widths.now c.given-rows.ensures.list c.given-side.ensures.list
      c.sorts_given-sorts.ensures.edition c.if-source.true
      c.source_widths.ensures.outcome;
}

pub returns : goal.returns
returns c = record {
  outcome =
      let a = c.args in
      target-call a.second a.words.now a.bits.now a.widths.now c.given-rows.ensures.list
      c.if-source.false c.gilfrunt_target_widths.ensures.outcome;
}
