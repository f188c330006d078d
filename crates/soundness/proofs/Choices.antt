-- What is fixed beforehand as an assignment and as an interpretation, and choices by lists of classes that are equal up to the last row.
-- Assumes nothing.
use Prim.Native.Nat.{ℕ, ◌<◌, ◌^◌}
use mathlib.Core.Path.{◌≡◌, refl, sym, ◌∙◌}
use mathlib.Core.Bool.{Bool, true, false, cond}
use mathlib.Core.List.{List}
use borrow.Author.Tests.{eq-eqb, eqb-true}
use lib.Dec.{eqb}
use lib.ListN.{get_or}
use lib.Pow.{pow_pos}
use Rattle.rows.specs.Row.{MAX}
use Rattle.value.specs.Val.{Val}
use Rattle.value.specs.Graph.{Assigns}
use Rattle.meaning.specs.Meaning.{Interpretation, OfKind}
use Rattle.lowering.specs.Images.{map_at}
use Rattle.lowering.specs.Lowering.{array_sorts, Lowering, target_rows}
use Rattle.soundness.specs.Choices.{Within, UnmappedVar, ClassZeroVar, AgreesOnUnmapped, AgreesOnClassZero, SameChoicesBy}
use Rattle.soundness.proofs.Accepted.{zero-fits}

module _ (L : Lowering) where
  -- q at the rows of class 0, p at the unmapped rows, else 0
  abbrev pub in-class-zero : List ℕ → (ℕ → ℕ) → ℕ → ℕ
  in-class-zero cls q r = cond (eqb (get_or cls r 0) 0) (q r) 0

  abbrev pub at-unmapped : (ℕ → ℕ) → Interpretation
  at-unmapped p = record { variable = λ i. cond (eqb (map_at L.map i) MAX) (p i) 0; array = λ a x. 0; function = λ f w vs. 0 }

  -- each fits, and agrees with what it was made of
  below : (b : Bool) (x w : ℕ) → (b ≡ true → x < 2 ^ w) → cond b x 0 < 2 ^ w
  below true x w h = h refl
  below false x w h = pow_pos w

  pub class-zero-fits : (cls : List ℕ) (q : ℕ → ℕ) → Within (ClassZeroVar L cls) q → Assigns (in-class-zero cls q) L.target.rows
  class-zero-fits cls q fits r w h e = below _ (q r) w (λ t. fits r w (h, eqb-true _ _ t, e))

  pub class-zero-has : (cls : List ℕ) (q : ℕ → ℕ) → AgreesOnClassZero L cls (in-class-zero cls q) q
  class-zero-has cls q r w (h, c, e) = rw (eq-eqb _ _ c)

  pub unmapped-fits : (p : ℕ → ℕ) → Within (UnmappedVar L) p → OfKind (array_sorts L) (at-unmapped p) L.source.rows
  unmapped-fits p fits =
      record {
        variables-fit = λ i w h e. below _ (p i) w (λ t. fits i w (h, eqb-true _ _ t, e));
        cells_fit = (zero-fits L).cells_fit;
        results_fit = (zero-fits L).results_fit;
      }

  pub unmapped-has : (p : ℕ → ℕ) → AgreesOnUnmapped L (at-unmapped p) p
  unmapped-has p i w (h, k, e) = rw (eq-eqb _ _ k)

  -- lists of classes that are equal up to the last row have the same variables in class 0
  pub by-classes : (holds : Val → Bool) (cls left : List ℕ) → ((r : ℕ) → r < target_rows L → get_or left r 0 ≡ get_or cls r 0)
      → SameChoicesBy L holds cls → SameChoicesBy L holds left
  by-classes holds cls left same choices u p q free-p free-q =
      let (f, g) = choices u p q free-p (λ r w (h, c, e). free-q r w (h, same r h ∙ c, e)) in (
        λ o. let (A, t, a, z) = f o in (A, t, a, λ r w (h, c, e). z r w (h, sym (same r h) ∙ c, e)),
        λ (A, t, a, z). g (A, t, a, λ r w (h, c, e). z r w (h, same r h ∙ c, e)),
      )
