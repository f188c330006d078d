-- Invariant: the arguments before l agree. Assumes nothing.
use Prim.Native.Nat.{◌+◌}
use lib.ListN.{get_or}
use Rattle.lowering.specs.Matching.{mapped_arg}
use Rattle.images.proofs.Agree.{Agreed}
use Rattle.applied.proofs.args_match.Given as goal

abbrev pub invariant-loop-l : goal.invariant-loop-l
invariant-loop-l l = Agreed (mapped_arg l.map l.eside l.s) (λ j. get_or l.cargs (l.cs + j) 0) l.k l.l
