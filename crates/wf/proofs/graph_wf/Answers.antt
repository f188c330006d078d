-- A second edition's pass, or one part with one sort. Assumes nothing.
use mathlib.Core.Path.{refl}
use native.Mathlib.Omega.{arith}
use Rattle.sorts.specs.Sorts.{plain}
use Rattle.wf.proofs.Parts.{at-start, at-stop}
use Rattle.wf.proofs.graph_wf.Goals as goal

pub returns : goal.returns
returns c =
    let s = c.args in
    let e = c.row_count-n.ensures.count in
    let told = c.rows_wf.ensures in
    let (reached, stops) =
    told.part plain s.ws.now (λ i h k t. (refl, refl)) (at-start plain s.graph s.nbits s.side.now s.g.now s.ws.now) in
    let p =
    at-stop plain s.graph s.nbits s.side.now s.g.now s.ws.now c.rows_wf.new.ws c.rows_wf.result reached (omega (arith, e, told.place.1))
    (λ h. stops (omega (arith, e, h))) in
    record { row = rw c.in_default.is p.0; list = rw c.in_default.is p.1 }
