-- Each return is one law of proofs/Widths. Assumes nothing.
use Prim.Native.Nat.{ℕ}
use mathlib.Core.Path.{◌≡◌, ◌∙◌, sym, ap}
use mathlib.Core.List.{List, [], ◌∷◌}
use native.Mathlib.Omega.{arith}
use lib.ListN.{length}
use Rattle.answers.specs.Answer.{Accepted}
use Rattle.answers.specs.Result.{result_of}
use Rattle.lists.proofs.First.{first-le}
use Rattle.sorts.specs.Sorts.{Sorts, edition_given, sorts_of}
use Rattle.rows.specs.Row.{row_count}
use Rattle.wf.specs.Pass.{row_stops}
use Rattle.wf.proofs.Stop.{stop-good}
use Rattle.widths.proofs.Widths.{widths-17, widths-stop, widths-accepted, accepted-list}
use Rattle.widths.proofs.row_widths.Goals as goal

pub refusal-requires : goal.refusal-requires
refusal-requires c =
    let s = c.args in
    let before = rw c.row_count-n.ensures.count at c.if-stop-n.true in
    record {
      stop_bound = omega (arith, before);
      by_index =
          λ j h. stop-good (sorts_of (edition_given s.sorts)) s.graph (length s.bits.now) s.side.now s.g.now j
          (rw c.graph_wf-stop.ensures.row at h);
      stop_bound_2 = λ e. before;
    }

pub returns-then-stop-n : goal.returns-then-stop-n
returns-then-stop-n c = record {
  outcome =
      let s = c.args in
      let w = c.graph_wf-stop in
      rw (c.refusal.ensures.answer, w.ensures.row, c.clear.ensures.zeros, w.auto.ws)
      (sym (widths-stop (sorts_of (edition_given s.sorts)) s.graph s.g.now s.bits.now s.side.now s.ws.now
      (rw (w.ensures.row, c.row_count-n.ensures.count) at c.if-stop-n.true)));
}

pub returns-then-bit-bits : goal.returns-then-bit-bits
returns-then-bit-bits c = record {
  outcome =
      let s = c.args in
      let w = c.graph_wf-stop in
      rw (c.graph_number.ensures.number, c.bad_bit-bit.ensures.position, c.clear-then-bit-bits.ensures.zeros, w.auto.ws)
      (sym (widths-17 (sorts_of (edition_given s.sorts)) s.graph s.g.now s.bits.now s.side.now s.ws.now
      (rw (w.ensures.row, c.row_count-n.ensures.count) at c.if-stop-n.false)
      (rw c.bad_bit-bit.ensures.position at c.if-bit-bits.true)));
}

pub returns : goal.returns
returns c = record {
  outcome =
      let s = c.args in
      let σ : Sorts = sorts_of (edition_given s.sorts) in
      let count = c.row_count-n.ensures.count in
      let w = c.graph_wf-stop in
      let most = first-le (row_stops σ s.graph (length s.bits.now) s.side.now s.g.now) (row_count s.graph s.g.now) in
      let all : w.result ≡ c.row_count-n.result = omega (arith, w.ensures.row, most, count) in
      ap (λ (l : List ℕ). result_of Accepted (l ∷ [])) (c.clear_from.ensures.zeros
      ∙ accepted-list σ s.graph (length s.bits.now) s.g.now s.side.now s.ws.now _ _ _ count all w.auto.ws
      w.ensures.list)
      ∙ sym (widths-accepted σ s.graph s.g.now s.bits.now s.side.now s.ws.now (rw (w.ensures.row, count) at c.if-stop-n.false)
      (rw c.bad_bit-bit.ensures.position at c.if-bit-bits.false));
}
