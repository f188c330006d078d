-- Counts, forms, lowering in 01's order: each return is the law of its stage; the lists that are left follow from the answer. Assumes nothing.
use mathlib.Core.Path.{◌≡◌, refl, sym, ap, ◌∙◌}
use mathlib.Core.Bool.{true, not}
use mathlib.Core.List.{[]}
use native.Mathlib.Omega.{arith}
use lib.ListN.{length}
use lib.Seq.{length-take-le}
use Rattle.sorts.specs.Sorts.{plain}
use Rattle.std.proofs.lemmas.Result.{err_from_is_err_and}
use Rattle.answers.specs.Answer.{is_accepted}
use Rattle.rows.specs.declared.Graph.TheVariants.{Source, Target}
use Rattle.lowering.specs.Asked.{lowering_of}
use Rattle.lowering.specs.Lowering.{Lowering, SourceGraph, TargetGraph, array_sorts}
use Rattle.lowering.specs.Check.{first_refusal, count_answers}
use Rattle.forms.proofs.Form.{widths-front}
use Rattle.checker.proofs.Outcome.{widths-cleared, count-done, graph-done, match-done, accept-done, room_0, room-1, room-2, room-3}
use Rattle.checker.proofs.Outcome.{forms-sorted, forms-formed, by-lists, zeros-long}
use Rattle.checker.proofs.check.Goals as goal
use Rattle.checker.proofs.check.Goals.{Start, In_ok-a, Else-is_err}

-- what the function was given
abbrev input : Start → Lowering
input c = lowering_of c.args.asked.now

-- the counts pass, and the forms
counts-pass : (c : In_ok-a) (S : SourceGraph) (T : TargetGraph) → length S.rows ≡ length c.args.asked.now.source.rows.now
    → length T.rows ≡ length c.args.asked.now.target.rows.now
    → (let s = c.args in
    is_accepted (first_refusal (count_answers S T (length s.ws0.now) (length s.ws1.now) (length s.cls.now) (length s.ent.now))) ≡ true)
counts-pass c S T e f =
    rw (c.count_answer-a.ensures.answer S T e f) at (ap is_accepted c.in_ok-a.was)

forms-accepted : (c : Else-is_err) → is_accepted c.rooted_graphs-g.result ≡ true
forms-accepted c = c.is_err.ensures.negation ∙ ap not c.if-is_err.false

pub returns-in_err-a : goal.returns-in_err-a
returns-in_err-a c = record {
  slice = omega arith;
  outcome =
      let s = c.args in
      let L = input (goal.at.returns-in_err-a c).Start in
      let q = err_from_is_err_and c.from_residual.result c.from_residual.ensures.1 in
      rw (q.1, q.2)
      (count-done s.strict L s.ws0.now s.ws1.now s.cls.now s.ent.now _ (sym c.in_err-a.was
      ∙ c.count_answer-a.ensures.answer L.source L.target refl refl)
      refl);
}

pub rooted_graphs-g-requires : goal.rooted_graphs-g-requires
rooted_graphs-g-requires c =
    let t = goal.at.rooted_graphs-g-requires c in
    let s = c.args in
    let L = input t.Start in
    let c1 = counts-pass t.In_ok-a L.source L.target refl refl in
    record {
      source_in_bounds = room_0 s.strict L s.ws0.now s.ws1.now s.cls.now s.ent.now c1;
      target_in_bounds = room-1 s.strict L s.ws0.now s.ws1.now s.cls.now s.ent.now c1;
    }

pub returns-then-is_err : goal.returns-then-is_err
returns-then-is_err c = record {
  slice = omega arith;
  outcome =
      let t = goal.at.returns-then-is_err c in
      let s = c.args in
      let L = input t.Start in
      let c1 = counts-pass t.In_ok-a L.source L.target refl refl in
      let z = c.clear_all.ensures in
      let k = c.rooted_graphs-g in
      by-lists _ _ _ _ _ _ _ _ _ _ (zeros-long _ (length s.ws0.now) _ z.zeros k.auto.ws0)
      (zeros-long _ (length s.ws1.now) _ z.zeros_1 k.auto.ws1) z.zeros_2 z.zeros_3
      (graph-done s.strict L s.ws0.now s.ws1.now s.cls.now s.ent.now _ c1 k.ensures.answer
      (c.is_err.ensures.negation ∙ ap not c.if-is_err.true));
}

pub slice_bounds-lowered-end : goal.slice_bounds-lowered-end
slice_bounds-lowered-end c =
    let t = goal.at.slice_bounds-lowered-end c in
    let s = c.args in
    let L = input t.Start in
    let c1 = counts-pass t.In_ok-a L.source L.target refl refl in
    rw (c.row_count-n.ensures.count, c.rooted_graphs-g.auto.ws1) (room-1 s.strict L s.ws0.now s.ws1.now s.cls.now s.ent.now c1)

pub slice_bounds-lowered-end-2 : goal.slice_bounds-lowered-end-2
slice_bounds-lowered-end-2 c =
    let t = goal.at.slice_bounds-lowered-end-2 c in
    let s = c.args in
    let L = input t.Start in
    let c1 = counts-pass t.In_ok-a L.source L.target refl refl in
    sym (length-take-le _ _ (rw (c.row_count-n.ensures.count, c.rooted_graphs-g.auto.ws1)
    (room-1 s.strict L s.ws0.now s.ws1.now s.cls.now s.ent.now c1)))

pub lowered-m-requires : goal.lowered-m-requires
lowered-m-requires c =
    let t = goal.at.lowered-m-requires c in
    let s = c.args in
    let L = input t.Start in
    let c1 = counts-pass t.In_ok-a L.source L.target refl refl in
    let ok = forms-accepted t.Else-is_err in
    let g1 = rw c.rooted_graphs-g.ensures.answer at ok in
    record {
      formed = forms-formed s.strict L s.ws0.now s.ws1.now s.cls.now s.ent.now g1;
      ws_value =
          widths-front plain Target (length s.asked.now.target.bits.now) _ [] s.asked.now.target.rows.now _ _ c.row_count-n.ensures.count
          (c.rooted_graphs-g.ensures.target_list ok);
      target_in_bounds = room-2 s.strict L s.ws0.now s.ws1.now s.cls.now s.ent.now c1;
      target_in_bounds_2 = room-3 s.strict L s.ws0.now s.ws1.now s.cls.now s.ent.now c1;
      good = forms-sorted s.strict L s.ws0.now s.ws1.now s.cls.now s.ent.now g1;
    }

pub returns-then-is_err-2 : goal.returns-then-is_err-2
returns-then-is_err-2 c = record {
  slice = omega arith;
  outcome =
      let t = goal.at.returns-then-is_err-2 c in
      let s = c.args in
      let L = input t.Start in
      let c1 = counts-pass t.In_ok-a L.source L.target refl refl in
      let ok = forms-accepted t.Else-is_err in
      let k = c.rooted_graphs-g in
      let g1 = rw k.ensures.answer at ok in
      let z = c.clear_all-then-is_err-2.ensures in
      let l = c.lowered-m in
      by-lists _ _ _ _ _ _ _ _ _ _ (zeros-long _ (length s.ws0.now) _ z.zeros k.auto.ws0)
      (zeros-long _ (length s.ws1.now) _ z.zeros_1 k.auto.ws1)
      (zeros-long _ (length s.cls.now) _ z.zeros_2 l.auto.cls)
      (zeros-long _ (length s.ent.now) _ z.zeros_3 l.auto.ent)
      (match-done s.strict L s.ws0.now s.ws1.now s.cls.now s.ent.now _ c1 g1 l.ensures.answer
      (c.is_err-2.ensures.negation ∙ ap not c.if-is_err-2.true));
}

pub clear_from-requires : goal.clear_from-requires
clear_from-requires c =
    let t = goal.at.clear_from-requires c in
    let s = c.args in
    let L = input t.Start in
    let c1 = counts-pass t.In_ok-a L.source L.target refl refl in
    rw (c.row_count.ensures.count, c.rooted_graphs-g.auto.ws0) (room_0 s.strict L s.ws0.now s.ws1.now s.cls.now s.ent.now c1)

pub clear_from-requires-2 : goal.clear_from-requires-2
clear_from-requires-2 c =
    let t = goal.at.clear_from-requires-2 c in
    let s = c.args in
    let L = input t.Start in
    let c1 = counts-pass t.In_ok-a L.source L.target refl refl in
    rw (c.row_count-n.ensures.count, c.rooted_graphs-g.auto.ws1) (room-1 s.strict L s.ws0.now s.ws1.now s.cls.now s.ent.now c1)

pub returns : goal.returns
returns c = record {
  slice = omega arith;
  outcome =
      let t = goal.at.returns c in
      let s = c.args in
      let L = input t.Start in
      let c1 = counts-pass t.In_ok-a L.source L.target refl refl in
      let ok = forms-accepted t.Else-is_err in
      let k = c.rooted_graphs-g in
      let g1 = rw k.ensures.answer at ok in
      let l = c.lowered-m in
      let m = c.is_err-2.ensures.negation ∙ ap not c.if-is_err-2.false in
      by-lists _ _ _ _ _ _ _ _ _ _ (widths-cleared (array_sorts L) Source (length s.asked.now.source.bits.now) _
      (length s.ws0.now) s.asked.now.source.side.now
      s.asked.now.source.rows.now _ _ _ c.row_count.ensures.count (k.ensures.source_list ok) k.auto.ws0 c.clear_from.ensures.zeros)
      (widths-cleared plain Target (length s.asked.now.target.bits.now) _
      (length s.ws1.now) [] s.asked.now.target.rows.now _ _ _ c.row_count-n.ensures.count
      (k.ensures.target_list ok) k.auto.ws1 c.clear_from-2.ensures.zeros) (l.ensures.class_list m) (l.ensures.entry_list m)
      (accept-done s.strict L s.ws0.now s.ws1.now s.cls.now s.ent.now _ c1 g1 l.ensures.answer m);
}
