-- What a lowering that has passed Check's tests gives: the facts about rows, entries and roots, and the two directions. Assumes nothing.
use Prim.Native.Nat.{ℕ, ◌<◌, ◌≤◌}
use mathlib.Core.Path.{◌≡◌, ◌∙◌}
use mathlib.Core.Bool.{true}
use mathlib.Core.List.{List}
use native.Mathlib.Omega.{arith}
use borrow.Author.Tests.{lt-ltb, le-ltb}
use lib.ListN.{length, get_or, get_or-append}
use lib.Pow.{pow_pos}
use Rattle.answers.specs.Answer.{Answer}
use Rattle.answers.specs.Answer.{is_accepted, lent}
use Rattle.value.specs.Graph.{Assigns}
use Rattle.meaning.specs.Meaning.{Interpretation, OfKind}
use Rattle.rows.specs.Row.{MAX}
use Rattle.rows.specs.Tags.{either}
use Rattle.lowering.specs.Images.{map_at}
use Rattle.lowering.specs.Lowering.{array_sorts, Lowering, source_rows, target_rows}
use Rattle.soundness.specs.Sound.{ImagesAgree, SourceTrue, TargetTrue}
use Rattle.soundness.specs.Transfer.{assignment, interpretation}
use Rattle.soundness.specs.Choices.{MappedVar, classes_left, AgreesOnMapped, AgreesOnImages, AgreesOnUnmapped, AgreesOnClassZero}
use Rattle.soundness.specs.Passed.{Passed}
use Rattle.soundness.proofs.Facts.{Formed, Matched}
use Rattle.soundness.proofs.Formed.{formed}
use Rattle.soundness.proofs.Classes.{classes-length}
use Rattle.soundness.proofs.Found.{of_row}
use Rattle.soundness.proofs.Owners.{owned-class, chosen-class, of-read, of-call, one-owner}
use Rattle.soundness.proofs.RootFacts.{within, of-root, cong-read, cong-call, only}
use Rattle.soundness.proofs.Forward.{at-var, at-free, assignment-fits, forward-agree, forward-roots}
use Rattle.soundness.proofs.Backward.{variable-at, interpretation-fits, backward-agree, backward-roots}

-- 0 everywhere
abbrev pub zeros : ℕ → ℕ
zeros r = 0

abbrev pub zero-interpretation : Interpretation
zero-interpretation = record { variable = λ i. 0; array = λ a x. 0; function = λ f w vs. 0 }

module _ (L : Lowering) where
  pub zeros-fit : Assigns zeros L.target.rows
  zeros-fit r w h e = pow_pos w

  pub zero-fits : OfKind (array_sorts L) zero-interpretation L.source.rows
  zero-fits = record { variables-fit = λ i w h e. pow_pos w; cells_fit = λ a x. pow_pos ((array_sorts L).cell a); results_fit = λ f w vs. pow_pos w }

module _ (L : Lowering) (slice : length L.target.rows ≤ MAX) (tests : Passed L) where
  small : target_rows L ≤ MAX
  small = omega arith

  graphs : Formed L
  graphs = formed L tests

  facts : Matched L
  facts =
      record {
        of_row = of_row L tests graphs small;
        of-read = of-read L tests graphs small;
        of-call = of-call L tests graphs small;
        one-owner = one-owner L tests graphs small;
        of-root = of-root L tests;
        cong-read = cong-read L tests;
        cong-call = cong-call L tests;
        only = only L tests;
      }

  pub passed-forward : (I : Interpretation) (given : ℕ → ℕ) → Assigns given L.target.rows → SourceTrue L I
      → TargetTrue L (assignment L I given) × ImagesAgree L I (assignment L I given)
  passed-forward I given free (kinds, roots) =
      let fits = assignment-fits L graphs facts I given kinds free in (
        (fits, forward-roots L graphs facts I given fits roots),
        λ i (h, k). let w = within L tests i h k in (w, forward-agree L graphs facts I given fits i (h, w)),
      )

  pub passed-backward : (A : ℕ → ℕ) (J : Interpretation) → OfKind (array_sorts L) J L.source.rows → TargetTrue L A
      → SourceTrue L (interpretation L A J) × ImagesAgree L (interpretation L A J) A
  passed-backward A J free (fits, roots) = (
    (interpretation-fits L graphs facts A fits J free, backward-roots L graphs facts A fits J roots),
    λ i (h, k). let w = within L tests i h k in (w, backward-agree L graphs facts A fits J roots i (h, w)),
  )

  -- at variables: the assignment has the interpretation's number at a mapped one's image and the given number in class 0; the interpretation has
  -- the image's number at a mapped one and the given number at an unmapped one
  pub assigned-image : (I : Interpretation) (given : ℕ → ℕ) → AgreesOnImages L (assignment L I given) I.variable
  assigned-image I given i w ((h, k), e) = at-var L graphs facts I given i w (h, within L tests i h k) e

  pub assigned-free : (I : Interpretation) (given : ℕ → ℕ) → AgreesOnClassZero L (classes_left L) (assignment L I given) given
  assigned-free I given r w (h, c, e) = at-free L graphs facts I given r h (λ o x. owned-class L tests graphs small o r x c)

  pub interpreted-mapped : (A : ℕ → ℕ) (J : Interpretation) → AgreesOnMapped L (interpretation L A J) (λ i. A (map_at L.map i))
  interpreted-mapped A J i w ((h, k), e) = variable-at L A J i ∙ rw (lt-ltb _ _ (within L tests i h k))

  pub interpreted-unmapped : (A : ℕ → ℕ) (J : Interpretation) → AgreesOnUnmapped L (interpretation L A J) J.variable
  interpreted-unmapped A J i w (h, k, e) = variable-at L A J i ∙ rw (le-ltb (map_at L.map i) (target_rows L) (omega (arith, small)))

  -- what neither fixes is of class 4 or 5
  pub chosen-rows : (r : ℕ) → r < target_rows L → (get_or (classes_left L) r 0 ≡ 0 → ⊥)
      → ((i w : ℕ) → MappedVar L i w → map_at L.map i ≡ r → ⊥) → either (get_or (classes_left L) r 0) 4 5 ≡ true
  chosen-rows r h taken no-image =
      chosen-class L tests graphs small r h taken (λ i ((l, k), (w, e), q). no-image i w ((l, λ z. omega (arith, small)), e) q)

  -- a list that an accepting operation leaves begins with the classes
  pub left_at : (a : Answer) (cls : List ℕ) → is_accepted a ≡ true → (r : ℕ) → r < target_rows L
      → get_or (lent a cls (classes_left L)) r 0 ≡ get_or (classes_left L) r 0
  left_at a cls e r h = rw e (get_or-append (classes_left L) _ 0 r (rw (classes-length L tests.reached (source_rows L)) h))
