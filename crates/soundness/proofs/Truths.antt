-- The two truths of a root (02, 2.6): where every root is a row of one bit they agree, so that what is proved of the one holds of the other.
-- Assumes nothing.
use Prim.Native.Nat.{ℕ, ◌<◌}
use mathlib.Core.Path.{◌≡◌, refl, sym, ◌∙◌}
use mathlib.Core.Bool.{Bool, true, false}
use mathlib.Core.Logic.{◌↔◌}
use mathlib.Core.List.{List, []}
use lib.ListN.{length, get_or}
use Rattle.sorts.specs.Sorts.{plain}
use Rattle.rows.specs.declared.Graph.TheVariants.{Source, Target}
use Rattle.value.specs.Val.{Val, wid}
use Rattle.value.specs.Graph.{Assigns}
use Rattle.value.proofs.Formed.{value-formed}
use Rattle.meaning.specs.Meaning.{Interpretation, is_true, is_true_bit, truth, RootsTrue, RootsTrueBy}
use Rattle.meaning.proofs.Truth.{one-bit-truth}
use Rattle.meaning.proofs.Values.{source-width}
use Rattle.lowering.specs.Lowering.{array_sorts, Lowering}
use Rattle.lowering.specs.Check.{widths_of_source, widths_of_target}
use Rattle.soundness.specs.Sound.{value_of_source, value_of_target, SourceTrue, SourceTrueBy, TargetTrue, TargetTrueBy}
use Rattle.soundness.specs.Passed.{OneBit}
use Rattle.soundness.proofs.Facts.{Formed}
use Rattle.soundness.proofs.Tables.{row-of-width}

-- roots whose values have one bit are true by both or by none
roots-agree : (values : ℕ → Val) (roots : List ℕ) → ((k : ℕ) → k < length roots → wid (values (get_or roots k 0)) ≡ 1)
    → RootsTrueBy is_true_bit values roots ↔ RootsTrue values roots
roots-agree values roots bit =
    let same : (k : ℕ) → k < length roots → is_true_bit (values (get_or roots k 0)) ≡ is_true (values (get_or roots k 0)) =
    λ k h. one-bit-truth (values (get_or roots k 0)) (bit k h) in
    (λ t k h. sym (same k h) ∙ t k h, λ t k h. same k h ∙ t k h)

module _ (L : Lowering) (F : Formed L) (bits : OneBit L) where
  source-bit : (I : Interpretation) (k : ℕ) → k < length L.eroots → wid (value_of_source L I (get_or L.eroots k 0)) ≡ 1
  source-bit I k h =
      let (l, e) = row-of-width (array_sorts L) Source (length L.source.bits) L.source.side L.source.rows _ _ (bits.source-roots k h) in
      source-width L.source.bits L.source.side L.source.rows (widths_of_source L) I F.source-formed _ l ∙ e

  target-bit : (A : ℕ → ℕ) → Assigns A L.target.rows → (k : ℕ) → k < length L.troots
      → wid (value_of_target L A (get_or L.troots k 0)) ≡ 1
  target-bit A fits k h =
      let (l, e) = row-of-width plain Target (length L.target.bits) [] L.target.rows _ _ (bits.target-roots k h) in
      (value-formed L.target.bits [] L.target.rows (widths_of_target L) A F.target-formed F.target-bits F.target-core fits _ l).0 ∙ e

  -- the truths agree on the source, whatever interprets it, and on the target
  pub source-truths : (I : Interpretation) → SourceTrueBy L is_true_bit I ↔ SourceTrue L I
  source-truths I =
      let (f, g) = roots-agree (value_of_source L I) L.eroots (source-bit I) in (λ (kind, t). (kind, f t), λ (kind, t). (kind, g t))

  pub target-truths : (A : ℕ → ℕ) → TargetTrueBy L is_true_bit A ↔ TargetTrue L A
  target-truths A = (
    λ (fits, t). (fits, (roots-agree (value_of_target L A) L.troots (target-bit A fits)).0 t),
    λ (fits, t). (fits, (roots-agree (value_of_target L A) L.troots (target-bit A fits)).1 t),
  )

-- by the switch: of the check that does not look at the roots' widths there is nothing to say
module _ (L : Lowering) (F : Formed L) where
  pub source-plain : (strict : Bool) → (strict ≡ true → OneBit L) → (I : Interpretation) → SourceTrueBy L (truth strict) I ↔ SourceTrue L I
  source-plain true bits I = source-truths L F (bits refl) I
  source-plain false bits I = (λ t. t, λ t. t)

  pub target-plain : (strict : Bool) → (strict ≡ true → OneBit L) → (A : ℕ → ℕ) → TargetTrueBy L (truth strict) A ↔ TargetTrue L A
  target-plain true bits A = target-truths L F (bits refl) A
  target-plain false bits A = (λ t. t, λ t. t)
