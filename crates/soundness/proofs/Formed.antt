-- What passed the tests of encoding and form is well formed. Assumes nothing.
use mathlib.Core.List.{[]}
use lib.ListN.{length}
use Rattle.sorts.specs.Sorts.{plain}
use Rattle.rows.specs.declared.Graph.TheVariants.{Source, Target}
use Rattle.encoding.proofs.Encoding.{clean}
use Rattle.value.proofs.Tagged.{core-rows}
use Rattle.wf.proofs.Promise.{well-formed}
use Rattle.lowering.specs.Lowering.{array_sorts, Lowering}
use Rattle.soundness.proofs.Facts.{Formed}
use Rattle.soundness.specs.Passed.{Passed}

pub formed : (L : Lowering) → Passed L → Formed L
formed L P =
    record {
      source-formed = well-formed (array_sorts L) Source (length L.source.bits) L.source.side L.source.rows P.source-formed;
      target-formed = well-formed plain Target (length L.target.bits) [] L.target.rows P.target-formed;
      source-bits = clean L.source.bits P.source-bits;
      target-bits = clean L.target.bits P.target-bits;
      target-core = core-rows L.target.rows P.target-rows;
    }
