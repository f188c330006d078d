-- The goals that search leaves open. Assumes nothing.
use Prim.Native.Nat.{◌<◌}
use mathlib.Core.Path.{◌≡◌, ap}
use mathlib.Core.Bool.{true}
use native.Mathlib.Omega.{arith}
use lib.ListN.{get_or}
use Rattle.sorts.specs.Sorts.{second_edition, sorts_of}
use Rattle.wf.proofs.Parts.{one-array, at-start, at-stop}
use Rattle.wf.specs.Pass.{row_stops, Reached}
use Rattle.wf.proofs.parts_wf.Goals as goal
use Rattle.wf.proofs.parts_wf.Goals.{After-rows_wf-k}

pub loop-i-init : goal.loop-i-init
loop-i-init c = (omega arith, at-start _ _ _ _ _ _)

pub row-r-requires : goal.row-r-requires
row-r-requires c = rw c.row_count-n.ensures.count at c.loop-i-test.true

pub part_end-to-requires : goal.part_end-to-requires
part_end-to-requires c =
    (rw c.row_count-n.ensures.count at c.loop-i-test.true, ap (λ r. get_or r 1 0) c.row-r.ensures.row)

pub rows_wf-k-requires : goal.rows_wf-k-requires
rows_wf-k-requires c = record {
  lines_value = c.all_lines-lines.ensures.lines;
  from_le_to = let place = c.part_end-to.ensures.place in
      (omega (arith, place.0), place.1, omega (arith, c.loop-i.invariant.1.whole, c.requires.g_in_bounds));
}

-- the pass is where the part's is, and stops if that does
part : (c : After-rows_wf-k)
    → let s = c.args in
    let σ = sorts_of (second_edition s.table.now) in
    let k = c.rows_wf-k.result in
    Reached σ s.graph s.nbits s.side.now s.g.now s.ws.now c.rows_wf-k.new.ws k
    × (k < c.part_end-to.result → row_stops σ s.graph s.nbits s.side.now s.g.now k ≡ true)
part c =
    let s = c.args in
    let σ = sorts_of (second_edition s.table.now) in
    let one = one-array σ s.graph s.g.now _ _ _ _ _ c.part_end-to.ensures.reads c.sort_of-sort.ensures.sort in
    c.rows_wf-k.ensures.part σ s.ws.now one c.loop-i.invariant.1

pub returns-then-k-to : goal.returns-then-k-to
returns-then-k-to c =
    let s = c.args in
    let (reached, stops) = part (goal.at.returns-then-k-to c).After-rows_wf-k in
    let h = c.part_end-to.ensures.place.1 in
    let p =
    at-stop (sorts_of (second_edition s.table.now)) s.graph s.nbits s.side.now s.g.now s.ws.now c.rows_wf-k.new.ws c.rows_wf-k.result reached
    (omega (arith, h)) (λ k. stops c.if-k-to.true) in
    record { row = p.0; list = p.1 }

pub loop-i-smaller : goal.loop-i-smaller
loop-i-smaller c =
    let h = c.part_end-to.ensures.place.0 in
    omega (arith, h, c.loop-i-test.true)

pub loop-i-preserved : goal.loop-i-preserved
loop-i-preserved c =
    let h = c.part_end-to.ensures.place.1 in
    (omega (arith, c.rows_wf-k.ensures.place.1, h), (part (goal.at.loop-i-preserved c).After-rows_wf-k).0)

pub returns : goal.returns
returns c =
    let s = c.args in
    let l = c.loop-i in
    let e = c.row_count-n.ensures.count in
    let p =
    at-stop (sorts_of (second_edition s.table.now)) s.graph s.nbits s.side.now s.g.now s.ws.now l.ws l.i l.invariant.1 l.invariant.0
    (λ h. absurd (omega (arith, e, c.loop-i-test.false, h))) in
    record { row = p.0; list = p.1 }
