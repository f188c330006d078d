-- In what is accepted every array that a Select or a read entry names is listed: its two widths lie between 1 and the ceiling. So "an array not
-- listed makes its Select ill-formed", and "a read entry that names one is refused" (02, 2.9). Assumes nothing.
use Prim.Native.Nat.{ℕ, ◌<◌}
use mathlib.Core.Path.{◌≡◌}
use mathlib.Core.List.{[]}
use native.Mathlib.Omega.{arith}
use lib.ListN.{length, get_or}
use Rattle.sorts.specs.Sorts.{plain}
use Rattle.rows.specs.declared.Node.TheVariants.{Var, Select}
use Rattle.wf.specs.Promise.{IsWidth, RowFormed}
use Rattle.lowering.specs.Tables.{read_count, read_var, read_array}
use Rattle.lowering.specs.Lowering.{Lowering, array_sorts, source_rows}
use Rattle.lowering.specs.Check.{widths_of_source, widths_of_target}
use Rattle.soundness.specs.Passed.{Passed}
use Rattle.soundness.proofs.Facts.{S}
use Rattle.soundness.proofs.Formed.{formed}
use Rattle.soundness.proofs.Tables.{read-facts, read-index}

module _ (L : Lowering) (P : Passed L) where
  -- both widths of an array
  abbrev pub Listed : ℕ → Type 0
  Listed a = IsWidth ((array_sorts L).index a) × IsWidth ((array_sorts L).cell a)

  pub select-listed : (i a j s k : ℕ) → i < source_rows L → S L i ≡ Select a j s k → Listed a
  select-listed i a j s k h e =
      let row : RowFormed (array_sorts L) (length L.source.bits) L.source.side (λ x. get_or (widths_of_source L) x 0) i (Select a j s k) =
      rw e at ((formed L P).source-formed i h) in
      let b = row.earlier.0 in
      (rw row.follows.1 at ((formed L P).source-formed j (omega arith)).is-width, rw row.follows.0 at row.is-width)

  pub read-listed : (q : ℕ) → q < read_count L.reads → Listed (read_array L.reads q)
  read-listed q h =
      let (inside, is-var, _, _) = read-facts L P.reached q h in
      let (l, w) = read-index L P.reached q h in
      let row : RowFormed plain (length L.target.bits) [] (λ x. get_or (widths_of_target L) x 0) (read_var L.reads q)
      (Var ((array_sorts L).cell (read_array L.reads q))) =
      rw is-var at ((formed L P).target-formed (read_var L.reads q) inside) in
      (rw w at ((formed L P).target-formed _ l).is-width, rw row.follows at row.is-width)
