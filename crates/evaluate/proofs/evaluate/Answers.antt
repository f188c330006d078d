-- Each row is ready after the numbers so far, and its number is the next. Assumes nothing.
use Rattle.std.proofs.Common.{ap, ◌∙◌, take, arith}
use Rattle.evaluate.proofs.Rows.{numbers-length, numbers-start, numbers-front, numbers-store, row-ready, row_number}
use Rattle.evaluate.proofs.evaluate.Goals as goal

pub loop-i-init : goal.loop-i-init
loop-i-init c =
    let s = c.args in
    numbers-start s.g.now s.bits.now s.given.now _

pub row_value-requires-clause-ready : goal.row_value-requires-clause-ready
row_value-requires-clause-ready c =
    let s = c.args in
    let l = c.loop-i in
    let h = rw c.requires.evaluable.widths at c.loop-i-test.true in
    rw (
      ap (take l.i) l.invariant ∙ numbers-front s.g.now s.bits.now s.given.now l.i _,
      numbers-length s.g.now s.bits.now s.given.now l.i,
    )
    (row-ready s.g.now s.bits.now s.given.now s.ws.now c.requires.evaluable l.i h)

pub loop-i-preserved : goal.loop-i-preserved
loop-i-preserved c =
    let s = c.args in
    let l = c.loop-i in
    let h = rw c.requires.evaluable.widths at c.loop-i-test.true in
    let v =
    (rw (ap (take l.i) l.invariant ∙ numbers-front s.g.now s.bits.now s.given.now l.i _) at c.row_value.ensures.value)
    ∙ row_number s.g.now s.bits.now s.given.now s.ws.now c.requires.evaluable l.i h 0 in
    rw l.invariant (numbers-store s.g.now s.bits.now s.given.now s.vs.now l.i _ (omega arith) v)
