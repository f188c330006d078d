-- The goals that search leaves open. Assumes nothing.
use mathlib.Core.Path.{refl, sym, ◌∙◌, ap}
use mathlib.Core.Bool.{Bool, not}
use native.Mathlib.Nat.{not-suc-le-zero}
use native.Mathlib.Omega.{arith}
use Rattle.std.proofs.lemmas.Result.{err_from_is_err_and}
use Rattle.answers.specs.Answer.{Answer, is_accepted}
use Rattle.lowering.specs.Asked.{lowering_of}
use Rattle.lowering.specs.Lowering.{Binding, binding_of}
use Rattle.lowering.specs.Matching.{Noted, noted}
use Rattle.matching.proofs.Loop.{rows_start, rows-stop, rows_more, rows_end}
use Rattle.matching.proofs.ext_rows.Goals as goal
use Rattle.matching.proofs.ext_rows.Goals.{Start}

-- whether an answer ends the loop
abbrev refusal : Answer → Bool
refusal a = not (is_accepted a)

abbrev asked : Start → Binding
asked c = binding_of (lowering_of c.args.asked.now)

abbrev known : Start → Noted
known c = let s = c.args in noted s.cls.now s.ent.now

pub loop-i-init : goal.loop-i-init
loop-i-init c =
    let at = (goal.at.loop-i-init c).Start in
    (refl, rows_start (asked at) (known at), λ j h. absurd (not-suc-le-zero h))

pub ext_step-step-requires : goal.ext_step-step-requires
ext_step-step-requires c =
    let p = c.requires in record {
      formed = p.formed;
      ent_len = (p.ent_len.0, c.loop-i.invariant.0 ∙ p.ent_len.1);
      i_bound = rw c.row_count-i-end.ensures.count at c.loop-i-test.true;
    }

pub returns-in_err-step : goal.returns-in_err-step
returns-in_err-step c =
    let at = (goal.at.returns-in_err-step c).Start in
    let l = c.loop-i in
    let e = c.ext_step-step.ensures in
    let p =
    rows-stop (asked at) (known at) l.i l.cls l.invariant.2 l.invariant.1 _ _ (rw c.row_count-i-end.ensures.count at c.loop-i-test.true)
    e.answer e.list (ap refusal c.in_err-step.was) in
    let q = err_from_is_err_and c.from_residual.result c.from_residual.ensures.1 in
    record { answer = rw (q.1, q.2) (sym c.in_err-step.was ∙ p.0); list = p.1 }

pub loop-i-preserved : goal.loop-i-preserved
loop-i-preserved c =
    let at = (goal.at.loop-i-preserved c).Start in
    let l = c.loop-i in
    let e = c.ext_step-step.ensures in
    let more =
    rows_more (asked at) (known at) l.i l.cls l.invariant.2 l.invariant.1 _ _ (rw c.row_count-i-end.ensures.count at c.loop-i-test.true)
    e.answer e.list (ap refusal c.in_ok-step.was) in
    (omega arith, more.0, more.1)

pub returns : goal.returns
returns c =
    let at = (goal.at.returns c).Start in
    let l = c.loop-i in
    let q = c.row_count-i-end.ensures.count in
    let at-most = rw q at c.loop-i.auto.i-end in
    let p =
    rows_end (asked at) (known at) l.i l.cls l.invariant.2 l.invariant.1 at-most (rw q at c.loop-i-test.false) in
    record { answer = p.0; list = p.1 }
