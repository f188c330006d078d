-- Each return is one law of proofs/Widths. Assumes nothing.
use mathlib.Core.Path.{sym, ap, ◌∙◌}
use mathlib.Core.Bool.{not}
use native.Mathlib.Omega.{arith}
use Rattle.answers.specs.Answer.{Answer}
use Rattle.lists.proofs.Choice.{no_way}
use Rattle.sorts.specs.Sorts.{edition_given}
use Rattle.refusals.specs.Rows.{rows_answer_by}
use Rattle.widths.proofs.Widths.{widths-15, widths-18, widths-28, widths-sorted}
use Rattle.widths.proofs.graph_widths.Goals as goal

pub returns-then-is_ragged : goal.returns-then-is_ragged
returns-then-is_ragged c = record {
  outcome =
      let s = c.args in
      rw c.graph_number.ensures.number
      (sym (widths-15 (edition_given s.sorts) s.graph s.g.now s.bits.now s.side.now s.ws.now
      (sym c.is_ragged.ensures.test ∙ c.if-is_ragged.true)));
}

pub returns-then-ws-row_count : goal.returns-then-ws-row_count
returns-then-ws-row_count c = record {
  outcome =
      let s = c.args in
      rw c.graph_number-then-ws-row_count.ensures.number
      (sym (widths-18 (edition_given s.sorts) s.graph s.g.now s.bits.now s.side.now s.ws.now
      (sym c.is_ragged.ensures.test ∙ c.if-is_ragged.false) (rw c.row_count.ensures.count at c.if-ws-row_count.true)));
}

pub refusal-requires : goal.refusal-requires
refusal-requires c = record {
  stop_bound = omega arith;
  by_index = λ j h. absurd (omega arith);
  stop_bound_2 = λ e. no_way (sym e ∙ (c.is_err.ensures.negation ∙ ap not c.if-is_err.true));
}

pub returns-then-is_err : goal.returns-then-is_err
returns-then-is_err c = record {
  outcome =
      let s = c.args in
      let no = (rw c.sort_answer-sort.ensures.answer at c.is_err.ensures.negation) ∙ ap not c.if-is_err.true in
      rw c.clear.ensures.zeros
      (sym (widths-28 (edition_given s.sorts) s.graph s.g.now s.bits.now s.side.now s.ws.now
      (sym c.is_ragged.ensures.test ∙ c.if-is_ragged.false) (rw c.row_count.ensures.count at c.if-ws-row_count.false) no 0 c.refusal.result
      (c.refusal.ensures.answer ∙ ap (λ (a : Answer). rows_answer_by a s.graph s.g.now s.bits.now 0) c.sort_answer-sort.ensures.answer)));
}

pub row_widths-requires : goal.row_widths-requires
row_widths-requires c = record {
  good = (rw c.sort_answer-sort.ensures.answer at c.is_err.ensures.negation) ∙ ap not c.if-is_err.false;
  g_in_bounds = rw c.row_count.ensures.count at c.if-ws-row_count.false;
}

pub returns : goal.returns
returns c = record {
  outcome =
      let s = c.args in
      let yes = (rw c.sort_answer-sort.ensures.answer at c.is_err.ensures.negation) ∙ ap not c.if-is_err.false in
      c.row_widths.ensures.outcome
      ∙ sym (widths-sorted (edition_given s.sorts) s.graph s.g.now s.bits.now s.side.now s.ws.now
      (sym c.is_ragged.ensures.test ∙ c.if-is_ragged.false) (rw c.row_count.ensures.count at c.if-ws-row_count.false) yes);
}
