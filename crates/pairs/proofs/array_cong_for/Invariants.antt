-- Invariant: the pairs of entry k with entries from l on give what all its pairs give. Assumes nothing.
use Rattle.lowering.specs.Tables.{read_count}
use Rattle.lowering.specs.Roots.{reads_need, read_root}
use Rattle.pairs.proofs.Walk.{RowKept}
use Rattle.pairs.proofs.array_cong_for.Given as goal

abbrev pub invariant-loop-l : goal.invariant-loop-l
invariant-loop-l l =
    RowKept l.troots (read_root l.reads l.target) (reads_need l.reads l.target l.tbits) (read_count l.reads) l.k l.idx0 l.idx l.l
