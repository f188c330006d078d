-- The goals that search leaves open. Assumes nothing.
use Prim.Native.Nat.{◌+◌, ◌*◌, ◌-◌}
use mathlib.Core.Path.{◌∙◌, sym, ap}
use native.Mathlib.Nat.{add-zero, sub-zero}
use native.Mathlib.Omega.{arith}
use Rattle.lowering.specs.Asked.{lowering_of}
use Rattle.lowering.specs.declared.Walk.{Walk}
use Rattle.lowering.specs.Matching.{walk}
use Rattle.chains.specs.Step.{onward}
use Rattle.chains.proofs.Walk.{along, walk_end, walk_step, onward-stays}
use Rattle.chains.proofs.chain_walk.Goals as goal

pub returns-then-k-eq0 : goal.returns-then-k-eq0
unfolding walk
returns-then-k-eq0 c = record { stop = rw c.if-k-eq0.true }

pub loop-l-init : goal.loop-l-init
loop-l-init c = rw (add-zero, sub-zero)

pub overflow_mul-at : goal.overflow_mul-at
overflow_mul-at c =
    let h = c.requires.pairs_within _ c.loop-l-test.true in omega (arith, h.0)

pub overflow_add-at : goal.overflow_add-at
overflow_add-at c =
    let h = c.requires.pairs_within _ c.loop-l-test.true in omega (arith, h.0)

pub pair_step-step-requires : goal.pair_step-step-requires
pair_step-step-requires c = record {
  p_bound = let p = c.requires in (p.pairs_within _ c.loop-l-test.true).1;
  consts_within = let p = c.requires in (p.consts_within, rw c.row-q.ensures.row (p.consts_within _ p.j_bound));
}

pub loop-l-preserved : goal.loop-l-preserved
loop-l-preserved c =
    let s = c.args in
    let w = along ((lowering_of s.asked.now).source) s.asked.now.map.now s.asked.now.target.rows.now s.j in
    let l = c.loop-l in
    l.invariant ∙ walk_step _ _ _ _ s.k s.s l.l l.row c.loop-l-test.true
    ∙ ap (λ (z : Walk). onward z (w (s.k - (l.l + 1)) (s.s + 2 * (l.l + 1))))
    (sym (rw (c.row-q.ensures.row, c.map_at-b.ensures.row) at c.pair_step-step.ensures.step)
    ∙ c.in-RanOut.is)

pub returns : goal.returns
returns c = record {
  stop =
      let s = c.args in
      let l = c.loop-l in
      sym (l.invariant ∙ walk_end _ _ _ _ s.k s.s l.l l.row c.loop-l-test.false);
}

pub returns-in_default : goal.returns-in_default
returns-in_default c = record {
  stop =
      let s = c.args in
      let w = along ((lowering_of s.asked.now).source) s.asked.now.map.now s.asked.now.target.rows.now s.j in
      let l = c.loop-l in
      sym (l.invariant ∙ walk_step _ _ _ _ s.k s.s l.l l.row c.loop-l-test.true
      ∙ ap (λ (z : Walk). onward z (w (s.k - (l.l + 1)) (s.s + 2 * (l.l + 1))))
      (sym (rw (c.row-q.ensures.row, c.map_at-b.ensures.row) at c.pair_step-step.ensures.step))
      ∙ onward-stays _ _ c.in_default.not-RanOut);
}
