-- By the tag word, which says the row's kind: the kind's function answers as the definition does at that kind. Assumes nothing.
use mathlib.Core.Path.{refl, sym}
use native.Mathlib.Omega.{arith}
use Rattle.answers.specs.Answer.{VarClass, ConstMismatch, NodeMismatch, ChainMismatch, CallMismatch}
use Rattle.lists.proofs.Choice.{cond_same}
use Rattle.lowering.specs.Asked.{lowering_of}
use Rattle.lowering.specs.Lowering.{Binding, binding_of}
use Rattle.lowering.specs.Matching.{Noted, noted}
use Rattle.matching.proofs.Rows.{var-answer, var-classes, const-answer, const-classes, select-answer, select-classes, call-answer}
use Rattle.matching.proofs.Rows.{call-classes, plain-answer, plain-classes}
use Rattle.matching.proofs.Outcome.{consts-target, const-ready, select-ready, call-ready, plain_ready, outcome}
use Rattle.matching.proofs.row_corr.Goals as goal
use Rattle.matching.proofs.row_corr.Goals.{After-row-e}

abbrev asked : After-row-e → Binding
asked c =
    let s = c.args in
    binding_of (lowering_of s.asked.now)

abbrev known : After-row-e → Noted
known c = let s = c.args in noted s.cls.now s.ent.now

pub const_corr-requires : goal.const_corr-requires
const_corr-requires c =
    let p = c.requires in
    (p.i_bound.1, const-ready _ _ p.formed _ p.i_bound.0 _ c.row-e.ensures.row, consts-target _ _ p.formed)

pub select_corr-requires : goal.select_corr-requires
select_corr-requires c =
    let p = c.requires in record {
      e_bound = select-ready _ _ p.formed _ p.i_bound.0 _ c.row-e.ensures.row c.in-37.is;
      ent_len = p.ent_len;
    }

pub call_corr-requires : goal.call_corr-requires
call_corr-requires c =
    let p = c.requires in record {
      r_bound = (p.i_bound.1, p.ent_len.0, p.ent_len.1);
      args_within = call-ready _ _ p.formed _ p.i_bound.0 _ c.row-e.ensures.row c.in-38.is;
    }

pub returns-in-0 : goal.returns-in-0
returns-in-0 c =
    let at = (goal.at.returns-in-0 c).After-row-e in
    let s = c.args in
    let q = c.row-e.ensures.row in
    let t = c.in-0.is in
    let p =
    outcome _ _ (VarClass s.i) _ _ _ _ _ _ refl c.var_corr.ensures.test c.var_corr.ensures.list c.matched.ensures.answer
    (var-answer (asked at) (known at) s.i s.r _ q t) (var-classes (asked at) (known at) s.i s.r _ q t) in record { answer = p.0; list = p.1 }

pub returns-in-1 : goal.returns-in-1
returns-in-1 c =
    let at = (goal.at.returns-in-1 c).After-row-e in
    let s = c.args in
    let q = c.row-e.ensures.row in
    let t = c.in-1.is in
    let p =
    outcome _ _ (ConstMismatch s.i) _ _ _ _ _ _ refl c.const_corr.ensures.test (sym (cond_same c.const_corr.result s.cls.now))
    c.matched-in-1.ensures.answer
    (const-answer (asked at) (known at) s.i s.r _ q t) (const-classes (asked at) (known at) s.i s.r _ q t) in record { answer = p.0; list = p.1 }

pub returns-in-37 : goal.returns-in-37
returns-in-37 c =
    let at = (goal.at.returns-in-37 c).After-row-e in
    let s = c.args in
    let q = c.row-e.ensures.row in
    let t = c.in-37.is in
    let p =
    outcome _ _ (ChainMismatch s.i) _ _ _ _ _ _ refl c.select_corr.ensures.test c.select_corr.ensures.list c.matched-in-37.ensures.answer
    (select-answer (asked at) (known at) s.i s.r _ q t) (select-classes (asked at) (known at) s.i s.r _ q t) in record { answer = p.0; list = p.1 }

pub returns-in-38 : goal.returns-in-38
returns-in-38 c =
    let at = (goal.at.returns-in-38 c).After-row-e in
    let s = c.args in
    let q = c.row-e.ensures.row in
    let t = c.in-38.is in
    let p =
    outcome _ _ (CallMismatch s.i) _ _ _ _ _ _ refl c.call_corr.ensures.test c.call_corr.ensures.list c.matched-in-38.ensures.answer
    (call-answer (asked at) (known at) s.i s.r _ q t) (call-classes (asked at) (known at) s.i s.r _ q t) in record { answer = p.0; list = p.1 }

pub returns-in_default : goal.returns-in_default
returns-in_default c =
    let at = (goal.at.returns-in_default c).After-row-e in
    let s = c.args in
    let q = c.row-e.ensures.row in
    let t =
    plain_ready _ _ c.requires.formed _ c.requires.i_bound.0 _ q (λ z. omega arith) (λ z. omega arith) (λ z. omega arith)
    (λ z. omega arith) in
    let p =
    outcome _ _ (NodeMismatch s.i) _ _ _ _ _ _ refl c.node_corr.ensures.test (sym (cond_same c.node_corr.result s.cls.now))
    c.matched-in_default.ensures.answer
    (plain-answer (asked at) (known at) s.i s.r _ q t) (plain-classes (asked at) (known at) s.i s.r _ q t) in record { answer = p.0; list = p.1 }
