-- The leading roots, those of reads, those of calls, then the end: each return is the law of its refusal over what the calls answered.
-- Assumes nothing.
use Rattle.lowering.specs.Asked.{lowering_of}
use Rattle.lowering.specs.Lowering.{TargetGraph, Entries, entries_of}
use Rattle.stages.proofs.RootLaws.{lead-12, read-13, call-13, surplus-12, roots-good}
use Rattle.stages.proofs.roots.Goals as goal
use Rattle.stages.proofs.roots.Goals.{After-ext_roots_corr-lead}

abbrev tables : After-ext_roots_corr-lead → Entries
tables c = let s = c.args in entries_of (lowering_of s.asked.now)

abbrev graph : After-ext_roots_corr-lead → TargetGraph
graph c = let s = c.args in (lowering_of s.asked.now).target

pub returns-then-lead-eroots : goal.returns-then-lead-eroots
returns-then-lead-eroots c = record {
  answer =
      let at = (goal.at.returns-then-lead-eroots c).After-ext_roots_corr-lead in
      let s = c.args in
      lead-12 (tables at) (graph at) s.ws.now s.asked.now.map.now s.asked.now.eroots.now s.asked.now.troots.now _
      c.ext_roots_corr-lead.ensures.position
      c.if-lead-eroots.true;
}

pub returns-in-Err : goal.returns-in-Err
returns-in-Err c = record {
  answer =
      let at = (goal.at.returns-in-Err c).After-ext_roots_corr-lead in
      let s = c.args in
      read-13 (tables at) (graph at) s.ws.now s.asked.now.map.now s.asked.now.eroots.now s.asked.now.troots.now _
      c.ext_roots_corr-lead.ensures.position
      c.if-lead-eroots.false _ c.in-Err.ensures.walk;
}

pub returns-in-Err-uf_cong : goal.returns-in-Err-uf_cong
returns-in-Err-uf_cong c = record {
  answer =
      let at = (goal.at.returns-in-Err-uf_cong c).After-ext_roots_corr-lead in
      let s = c.args in
      call-13 (tables at) (graph at) s.ws.now s.asked.now.map.now s.asked.now.eroots.now s.asked.now.troots.now _
      c.ext_roots_corr-lead.ensures.position
      c.if-lead-eroots.false _ c.in-Ok.ensures.walk _ c.in-Err-uf_cong.ensures.walk;
}

pub returns-then-u-troots : goal.returns-then-u-troots
returns-then-u-troots c = record {
  answer =
      let at = (goal.at.returns-then-u-troots c).After-ext_roots_corr-lead in
      let s = c.args in
      surplus-12 (tables at)
      (graph at) s.ws.now s.asked.now.map.now s.asked.now.eroots.now s.asked.now.troots.now _
      c.ext_roots_corr-lead.ensures.position
      c.if-lead-eroots.false _ c.in-Ok.ensures.walk _ c.in-Ok-uf_cong.ensures.walk c.if-u-troots.true;
}

pub returns : goal.returns
returns c = record {
  answer =
      let at = (goal.at.returns c).After-ext_roots_corr-lead in
      let s = c.args in
      roots-good (tables at)
      (graph at) s.ws.now s.asked.now.map.now s.asked.now.eroots.now s.asked.now.troots.now _
      c.ext_roots_corr-lead.ensures.position
      c.if-lead-eroots.false _ c.in-Ok.ensures.walk _ c.in-Ok-uf_cong.ensures.walk c.if-u-troots.false;
}
