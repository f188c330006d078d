-- What acceptance is to mean (01, 'Meaning' and demand 3), of Check and of the strict check, each with its truth (02, 2.6). Assumes nothing.
use Rattle.std.specs.Prelude.{ℕ, ◌<◌, ◌≡◌, Bool, true, false, ◌↔◌, List}
use Rattle.answers.specs.Answer.{is_accepted}
use Rattle.value.specs.Val.{Val}
use Rattle.value.specs.Graph.{value, Assigns}
use Rattle.meaning.specs.Meaning.{Interpretation, OfKind, is_true, is_true_bit, RootsTrueBy, SourceSatisfiableBy, TargetSatisfiableBy, source_value}
use Rattle.rows.specs.Row.{MAX}
use Rattle.lowering.specs.Images.{map_at}
use Rattle.lowering.specs.Lowering.{array_sorts, Lowering, source_rows, target_rows}
use Rattle.lowering.specs.Check.{check_by}

-- "The checker accepts when Check's number is 0"; the strict one likewise
abbrev pub AcceptsBy : Bool → Lowering → List ℕ → List ℕ → List ℕ → List ℕ → Type 0
AcceptsBy strict L ws0 ws1 cls ent = is_accepted (check_by strict L ws0 ws1 cls ent).answer ≡ true

abbrev pub Accepts : Lowering → List ℕ → List ℕ → List ℕ → List ℕ → Type 0
Accepts L ws0 ws1 cls ent = AcceptsBy false L ws0 ws1 cls ent

abbrev pub StrictlyAccepts : Lowering → List ℕ → List ℕ → List ℕ → List ℕ → Type 0
StrictlyAccepts L ws0 ws1 cls ent = AcceptsBy true L ws0 ws1 cls ent

module _ (L : Lowering) where
  -- the value of a source row under an interpretation, of a target row under an assignment
  abbrev pub value_of_source : Interpretation → ℕ → Val
  value_of_source I i = source_value (array_sorts L) L.source.rows L.source.bits L.source.side I i

  abbrev pub value_of_target : (ℕ → ℕ) → ℕ → Val
  value_of_target A r = value L.target.bits A L.target.rows r

  -- "A source row is mapped when its map word isn't MAX; the target row that the word names is its image"
  abbrev pub IsMapped : ℕ → Type 0
  IsMapped i = (i < source_rows L) × (map_at L.map i ≡ MAX → ⊥)

  -- "each mapped row has its image's value and width": a value is a width and a number
  abbrev pub ImagesAgree : Interpretation → (ℕ → ℕ) → Type 0
  ImagesAgree I A =
      (i : ℕ) → IsMapped i → (map_at L.map i < target_rows L) × (value_of_source I i ≡ value_of_target A (map_at L.map i))

  -- an interpretation that makes the source's roots true, an assignment that makes the target's, by some truth
  module _ (holds : Val → Bool) where
    abbrev pub SourceTrueBy : Interpretation → Type 0
    SourceTrueBy I = OfKind (array_sorts L) I L.source.rows × RootsTrueBy holds (value_of_source I) L.eroots

    abbrev pub TargetTrueBy : (ℕ → ℕ) → Type 0
    TargetTrueBy A = Assigns A L.target.rows × RootsTrueBy holds (value_of_target A) L.troots

    abbrev pub SourceIsSatisfiableBy : Type 0
    SourceIsSatisfiableBy = SourceSatisfiableBy holds (array_sorts L) L.source.rows L.source.bits L.source.side L.eroots

    abbrev pub TargetIsSatisfiableBy : Type 0
    TargetIsSatisfiableBy = TargetSatisfiableBy holds L.target.rows L.target.bits L.troots

  abbrev pub SourceTrue : Interpretation → Type 0
  SourceTrue I = SourceTrueBy is_true I

  abbrev pub TargetTrue : (ℕ → ℕ) → Type 0
  TargetTrue A = TargetTrueBy is_true A

  abbrev pub SourceIsSatisfiable : Type 0
  SourceIsSatisfiable = SourceIsSatisfiableBy is_true

-- Demand 3, of one lowering and one truth: what a checker that accepts it says
pub record SoundBy (holds : Val → Bool) (L : Lowering) : Type 0 where
  -- "each interpretation of S that makes S's roots true has an assignment of T that makes T's roots true", and "each mapped row has its image's value
  -- and width"
  pub forward : (I : Interpretation) → SourceTrueBy L holds I → (A : ℕ → ℕ) × TargetTrueBy L holds A × ImagesAgree L I A
  -- "and the other way round"
  pub backward : (A : ℕ → ℕ) → TargetTrueBy L holds A → (I : Interpretation) × SourceTrueBy L holds I × ImagesAgree L I A
  -- "So S is satisfiable exactly when T is"
  pub equisatisfiable : SourceIsSatisfiableBy L holds ↔ TargetIsSatisfiableBy L holds

-- of Check, where a root is true at any width, and of the strict check, where it is one bit
abbrev pub Sound : Lowering → Type 0
Sound L = SoundBy is_true L

abbrev pub StrictlySound : Lowering → Type 0
StrictlySound L = SoundBy is_true_bit L
