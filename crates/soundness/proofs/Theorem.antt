-- READ THIS FIRST: what it means that Check accepts, and that the strict check does (`strict` says which of the two; `truth strict` is when it takes
-- a root for true). The names are those of specs/ (Sound and crates/meaning: what graphs mean; Choices: which values of variables remain open;
-- Transfer: the assignment and the interpretation that are found) and of crates/lowering (Check: the operation's answer). docs/PROOF.md tells the
-- argument. Assumes that the check accepts, whatever lists are lent, and that the target has no more words than a slice can have. Nothing else.
use Prim.Native.Nat.{ℕ, ◌<◌, ◌≤◌}
use mathlib.Core.Path.{◌≡◌, sym, ap, ◌∙◌}
use mathlib.Core.Bool.{Bool, true, false}
use mathlib.Core.Logic.{◌↔◌}
use mathlib.Core.List.{List, []}
use lib.ListN.{length, get_or}
use Rattle.sorts.specs.Sorts.{plain}
use Rattle.lists.proofs.Choice.{no_way}
use Rattle.answers.specs.Answer.{Answer}
use Rattle.answers.specs.Answer.{is_accepted, lent}
use Rattle.answers.specs.Result.{Result}
use Rattle.value.specs.Graph.{Assigns}
use Rattle.meaning.specs.Meaning.{Interpretation, OfKind, is_true_bit, truth}
use Rattle.rows.specs.declared.Graph.TheVariants.{Source, Target}
use Rattle.rows.specs.Row.{MAX}
use Rattle.rows.specs.Tags.{either}
use Rattle.wf.specs.Promise.{AreWidths}
use Rattle.wf.proofs.Promise.{are-widths}
use Rattle.lowering.specs.Images.{map_at}
use Rattle.lowering.specs.Lowering.{array_sorts, Lowering, target_rows}
use Rattle.lowering.specs.Check.{widths_of_source, widths_of_target}
use Rattle.soundness.specs.Sound.{AcceptsBy, Accepts, StrictlyAccepts, SoundBy, ImagesAgree, SourceTrue, SourceTrueBy, TargetTrue, TargetTrueBy}
use Rattle.soundness.specs.Sound.{SourceIsSatisfiableBy, TargetIsSatisfiableBy}
use Rattle.soundness.specs.Transfer.{assignment, interpretation}
use Rattle.soundness.specs.Choices.{classes_left, AgreesOnMapped, AgreesOnImages, AgreesOnUnmapped, AgreesOnClassZero}
use Rattle.soundness.specs.Choices.{MappedVar, OpenInSourceBy, OpenInTargetBy, SameChoicesBy}
use Rattle.soundness.specs.Passed.{Passed, OneBit}
use Rattle.soundness.proofs.Strict.{strict-leaves}
use Rattle.soundness.proofs.Passed.{passed, one_bit}
use Rattle.soundness.proofs.Formed.{formed}
use Rattle.soundness.proofs.Truths.{source-truths, target-truths, source-plain, target-plain}
use Rattle.soundness.proofs.Accepted.{zeros, zero-interpretation, zeros-fit, zero-fits, passed-forward, passed-backward}
use Rattle.soundness.proofs.Accepted.{assigned-image, assigned-free, interpreted-mapped, interpreted-unmapped, chosen-rows, left_at}
use Rattle.soundness.proofs.Choices.{in-class-zero, class-zero-fits, class-zero-has, at-unmapped, unmapped-fits, unmapped-has, by-classes}

-- What the strict check accepts, Check accepts; and there the two truths agree: every root is a row of one bit (02, 2.6)
module _ (L : Lowering) (ws0 ws1 cls ent : List ℕ) (accepts : StrictlyAccepts L ws0 ws1 cls ent) where
  pub strictly-accepted : Accepts L ws0 ws1 cls ent
  strictly-accepted = ap (λ (o : Result). is_accepted o.answer) (sym (strict-leaves L ws0 ws1 cls ent accepts)) ∙ accepts

  pub truths-agree : ((I : Interpretation) → SourceTrueBy L is_true_bit I ↔ SourceTrue L I)
      × ((A : ℕ → ℕ) → TargetTrueBy L is_true_bit A ↔ TargetTrue L A)
  truths-agree =
      let graphs = formed L (passed true L ws0 ws1 cls ent accepts) in
      let bits = one_bit L ws0 ws1 cls ent accepts in
      (source-truths L graphs bits, target-truths L graphs bits)

-- the roots of the check that is asked, if it is the strict one
bits-if : (strict : Bool) (L : Lowering) (ws0 ws1 cls ent : List ℕ) → AcceptsBy strict L ws0 ws1 cls ent → strict ≡ true → OneBit L
bits-if true L ws0 ws1 cls ent accepts e = one_bit L ws0 ws1 cls ent accepts
bits-if false L ws0 ws1 cls ent accepts e = no_way (sym e)

module _ (strict : Bool) (L : Lowering) (ws0 ws1 cls ent : List ℕ) (slice : length L.target.rows ≤ MAX)
    (accepts : AcceptsBy strict L ws0 ws1 cls ent) where
  tests : Passed L
  tests = passed strict L ws0 ws1 cls ent accepts

  plain-source : (I : Interpretation) → SourceTrueBy L (truth strict) I ↔ SourceTrue L I
  plain-source = source-plain L (formed L tests) strict (bits-if strict L ws0 ws1 cls ent accepts)

  plain-target : (A : ℕ → ℕ) → TargetTrueBy L (truth strict) A ↔ TargetTrue L A
  plain-target = target-plain L (formed L tests) strict (bits-if strict L ws0 ws1 cls ent accepts)

  -- 1. Forward, along a given assignment for what the lowering leaves free: the assignment that belongs to an interpretation
  pub forward-along : (I : Interpretation) (given : ℕ → ℕ) → Assigns given L.target.rows → SourceTrueBy L (truth strict) I
      → TargetTrueBy L (truth strict) (assignment L I given) × ImagesAgree L I (assignment L I given)
  forward-along I given free s =
      let (t, a) = passed-forward L slice tests I given free ((plain-source I).0 s) in ((plain-target (assignment L I given)).1 t, a)

  -- 2. Backward, along a given interpretation for what the lowering leaves free: the interpretation that belongs to an assignment
  pub backward-along : (A : ℕ → ℕ) (J : Interpretation) → OfKind (array_sorts L) J L.source.rows → TargetTrueBy L (truth strict) A
      → SourceTrueBy L (truth strict) (interpretation L A J) × ImagesAgree L (interpretation L A J) A
  backward-along A J free t =
      let (s, a) = passed-backward L slice tests A J free ((plain-target A).0 t) in ((plain-source (interpretation L A J)).1 s, a)

  -- Where the two leave what they are given: at a mapped variable and its image stands one number; the given assignment counts in class 0, the given
  -- interpretation at unmapped variables
  pub forward-at : (I : Interpretation) (given : ℕ → ℕ)
      → AgreesOnImages L (assignment L I given) I.variable × AgreesOnClassZero L (classes_left L) (assignment L I given) given
  forward-at I given = (assigned-image L slice tests I given, assigned-free L slice tests I given)

  pub backward-at : (A : ℕ → ℕ) (J : Interpretation)
      → AgreesOnMapped L (interpretation L A J) (λ i. A (map_at L.map i)) × AgreesOnUnmapped L (interpretation L A J) J.variable
  backward-at A J = (interpreted-mapped L slice tests A J, interpreted-unmapped L slice tests A J)

  -- Each interpretation of the source that makes its roots true has an assignment of the target that makes its roots true, and each mapped row has
  -- its image's value and width
  pub forward : (I : Interpretation) → SourceTrueBy L (truth strict) I → (A : ℕ → ℕ) × TargetTrueBy L (truth strict) A × ImagesAgree L I A
  forward I s = let (t, a) = forward-along I zeros (zeros-fit L) s in (assignment L I zeros, t, a)

  -- and the other way round
  pub backward : (A : ℕ → ℕ) → TargetTrueBy L (truth strict) A → (I : Interpretation) × SourceTrueBy L (truth strict) I × ImagesAgree L I A
  backward A t = let (s, a) = backward-along A zero-interpretation (zero-fits L) t in (interpretation L A zero-interpretation, s, a)

  -- so the source with its roots is satisfiable exactly when the target with its roots is
  pub equisatisfiable : SourceIsSatisfiableBy L (truth strict) ↔ TargetIsSatisfiableBy L (truth strict)
  equisatisfiable =
      (λ (I, k, r). let (A, (f, t), _) = forward I (k, r) in (A, f, t), λ (A, f, t). let (I, (k, r), _) = backward A (f, t) in (I, k, r))

  -- demand 3
  pub sound : SoundBy (truth strict) L
  sound = record { forward = forward; backward = backward; equisatisfiable = equisatisfiable }

  -- "for any values of the mapped source variables, these can be completed to an interpretation that makes the source roots true exactly when the
  -- same values on their images can be completed in the target", whatever is fixed for the source's unmapped variables and the target's of class 0
  -- (02, 2.5)
  pub same-choices : SameChoicesBy L (truth strict) (classes_left L)
  same-choices u p q free-p free-q = (to-target, to-source)
    where
      to-target : OpenInSourceBy L (truth strict) u p → OpenInTargetBy L (truth strict) (classes_left L) u q
      to-target (I, s, mapped, unmapped) =
          let given = in-class-zero L (classes_left L) q in
          let (t, _) = forward-along I given (class-zero-fits L (classes_left L) q free-q) s in
          let (image, free) = forward-at I given in
          (assignment L I given, t, λ i w x. image i w x ∙ mapped i w x, λ r w x. free r w x ∙ class-zero-has L (classes_left L) q r w x)

      to-source : OpenInTargetBy L (truth strict) (classes_left L) u q → OpenInSourceBy L (truth strict) u p
      to-source (A, t, images, zero) =
          let given = at-unmapped L p in
          let (s, _) = backward-along A given (unmapped-fits L p free-p) t in
          let (mapped, free) = backward-at A given in
          (interpretation L A given, s, λ i w x. mapped i w x ∙ images i w x, λ i w x. free i w x ∙ unmapped-has L p i w x)

  -- What the target has then to choose: a row that is not of class 0 and no mapped variable's image is of class 4 or 5, a read's or a call's
  pub chosen : (r : ℕ) → r < target_rows L → (get_or (classes_left L) r 0 ≡ 0 → ⊥) → ((i w : ℕ) → MappedVar L i w → map_at L.map i ≡ r → ⊥)
      → either (get_or (classes_left L) r 0) 4 5 ≡ true
  chosen = chosen-rows L slice tests

  -- the same choices by the list of classes that an operation leaves with acceptance, zeros after the last row
  pub choices-left : (a : Answer) (list : List ℕ) → is_accepted a ≡ true → SameChoicesBy L (truth strict) (lent a list (classes_left L))
  choices-left a list e = by-classes L (truth strict) (classes_left L) (lent a list (classes_left L)) (left_at L slice tests a list e) same-choices

  -- "Every width handed upward is therefore between 1 and 4,096, and whoever receives one may use it" (02, 2.8)
  pub handed : AreWidths (widths_of_source L) × AreWidths (widths_of_target L)
  handed = (
    are-widths (array_sorts L) Source (length L.source.bits) L.source.side L.source.rows tests.source-formed,
    are-widths plain Target (length L.target.bits) [] L.target.rows tests.target-formed,
  )
