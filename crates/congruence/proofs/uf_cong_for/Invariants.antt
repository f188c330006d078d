-- Invariant: the pairs of entry k with entries from l on give what all its pairs give. Assumes nothing.
use Rattle.lowering.specs.Tables.{call_count, same_function}
use Rattle.lowering.specs.Roots.{call_root}
use Rattle.pairs.proofs.Walk.{RowKept}
use Rattle.congruence.proofs.uf_cong_for.Given as goal

abbrev pub invariant-loop-l : goal.invariant-loop-l
invariant-loop-l l =
    RowKept l.troots (call_root l.calls l.cargs l.target) (same_function l.calls l.cargs l.ws) (call_count l.calls) l.k l.idx0 l.idx l.l
