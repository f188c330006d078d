-- What is asked of the graphs whose rows are matched.
-- Inner: contracts within the code cite it; no answer's definition does. Assumes nothing.
use Rattle.std.specs.Prelude.{[], length}
use Rattle.sorts.specs.Sorts.{Sorts, plain}
use Rattle.rows.specs.declared.Graph.TheVariants.{Source, Target}
use Rattle.wf.specs.Promise.{WellFormed}
use Rattle.wf.specs.Widths.{widths}
use Rattle.lowering.specs.Lowering.{SourceGraph, TargetGraph}

-- both graphs are well formed, the source under some sorts of its arrays: no row's match asks which
pub record Formed (S : SourceGraph) (T : TargetGraph) : Type 0 where
  pub sorts : Sorts
  pub source-formed : WellFormed sorts Source (length S.bits) S.side S.rows (widths sorts Source (length S.bits) S.side S.rows)
  pub target-formed : WellFormed plain Target (length T.bits) [] T.rows (widths plain Target (length T.bits) [] T.rows)
