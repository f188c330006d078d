-- Skipped, out of range, or the answer of the row's node at its image. Assumes nothing.
use mathlib.Core.Path.{refl, sym, ◌∙◌}
use borrow.Author.Tests.{lt-ltb, le-ltb, eq-eqb, ne_eqb}
use Rattle.lowering.specs.Matching.{row_answer, row_classes}
use Rattle.matching.proofs.ext_step.Goals as goal

pub returns-then-r : goal.returns-then-r
unfolding row_answer row_classes
returns-then-r c = record {
  answer = let e = eq-eqb _ _ (sym c.map_at-r.ensures.row ∙ c.if-r.true) in rw e;
  list = let e = eq-eqb _ _ (sym c.map_at-r.ensures.row ∙ c.if-r.true) in rw e;
}

pub returns-then-row_count-r : goal.returns-then-row_count-r
unfolding row_answer
returns-then-row_count-r c = record {
  answer = rw (
    ne_eqb _ _ (λ z. c.if-r.false (c.map_at-r.ensures.row ∙ z)),
    le-ltb _ _ (rw (c.map_at-r.ensures.row, c.row_count.ensures.count) at c.if-row_count-r.true),
  );
  list = refl;
}

pub row_corr-requires : goal.row_corr-requires
row_corr-requires c =
    let p = c.requires in record {
      formed = p.formed;
      ent_len = p.ent_len;
      i_bound = (p.i_bound, rw c.row_count.ensures.count at c.if-row_count-r.false);
    }

pub returns : goal.returns
unfolding row_answer row_classes
returns c = record {
  answer = let m = c.map_at-r.ensures.row in
      let some = ne_eqb _ _ (λ z. c.if-r.false (m ∙ z)) in
      let in-range =
      lt-ltb _ _ (rw (m, c.row_count.ensures.count) at c.if-row_count-r.false) in rw (some, in-range) (c.row_corr.ensures.answer ∙ rw m);
  list = let m = c.map_at-r.ensures.row in
      let some = ne_eqb _ _ (λ z. c.if-r.false (m ∙ z)) in
      let in-range =
      lt-ltb _ _ (rw (m, c.row_count.ensures.count) at c.if-row_count-r.false) in rw some (c.row_corr.ensures.list ∙ rw m);
}
