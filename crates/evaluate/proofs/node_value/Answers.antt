-- Each arm: the operator's number on its operands' values. Assumes nothing.
use Rattle.std.proofs.Common.{◌∙◌, sym}
use Rattle.value.specs.Operate.{operate}
use Rattle.evaluate.proofs.Laws.{un-value, bin-value, extend-value}
use Rattle.evaluate.proofs.node_value.Goals as goal

pub returns-in-Const : goal.returns-in-Const
unfolding operate
returns-in-Const c = record { value = c.const_value.ensures.value ∙ rw c.in-Const.is }

pub returns-in-Un : goal.returns-in-Un
returns-in-Un c = record {
  value =
      let s = c.args in
      let r = rw c.in-Un.is at c.requires in
      c.un_value.ensures.value ∙ rw (c.value_at.ensures.value, c.in-Un.is)
      (sym (un-value s.bits.now s.ws.now s.vs.now s.x c.in-Un.t c.in-Un.a r.decoded));
}

pub returns-in-Bin : goal.returns-in-Bin
returns-in-Bin c = record {
  value =
      let s = c.args in
      let r = rw c.in-Bin.is at c.requires in
      c.bin_value.ensures.value ∙ rw (c.value_at-in-Bin.ensures.value, c.value_at-in-Bin-2.ensures.value, c.in-Bin.is)
      (sym (bin-value s.bits.now s.ws.now s.vs.now s.x c.in-Bin.t c.in-Bin.a c.in-Bin.b r.decoded));
}

pub returns-in-Extract : goal.returns-in-Extract
unfolding operate
returns-in-Extract c = record { value = c.bv_extract.ensures.value ∙ rw c.in-Extract.is }

pub returns-in-Extend : goal.returns-in-Extend
returns-in-Extend c = record {
  value =
      let s = c.args in
      let r = rw c.in-Extend.is at c.requires in
      c.extend_value.ensures.value ∙ rw (c.value_at-in-Extend.ensures.value, c.in-Extend.is)
      (sym (extend-value s.bits.now s.ws.now s.vs.now s.x c.in-Extend.t c.in-Extend.a c.in-Extend.n r.decoded));
}

pub returns-in-Ite : goal.returns-in-Ite
unfolding operate
returns-in-Ite c = record { value = c.bv_ite.ensures.value ∙ rw c.in-Ite.is }
