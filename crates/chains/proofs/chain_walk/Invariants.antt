-- Invariant: after l of k pairs, the walk from the current row along the rest is the whole walk. Assumes nothing.
use Prim.Native.Nat.{◌+◌, ◌*◌, ◌-◌}
use mathlib.Core.Path.{◌≡◌}
use Rattle.lowering.specs.Asked.{lowering_of}
use Rattle.lowering.specs.Matching.{walk}
use Rattle.chains.proofs.chain_walk.Given as goal

abbrev pub invariant-loop-l : goal.invariant-loop-l
invariant-loop-l l =
    let S = (lowering_of l.asked).source in
    let map = l.asked.map.now in
    let target = l.asked.target.rows.now in
    walk S map target l.j l.k l.s l.r ≡ walk S map target l.j (l.k - l.l) (l.s + 2 * l.l) l.row
