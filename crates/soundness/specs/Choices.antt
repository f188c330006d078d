-- "Same choices left to the chemist" (02, 2.5): which values of variables can be completed, in the source and in the target. Assumes nothing.
use Rattle.std.specs.Prelude.{ℕ, ◌<◌, ◌^◌, ◌≡◌, Bool, ◌↔◌, List, get_or}
use Rattle.rows.specs.declared.Graph.TheVariants.{Source, Target}
use Rattle.rows.specs.declared.Node.TheVariants.{Var}
use Rattle.rows.specs.Row.{MAX, row_at}
use Rattle.rows.specs.Node.{node_of}
use Rattle.value.specs.Val.{Val}
use Rattle.meaning.specs.Meaning.{Interpretation, is_true, is_true_bit}
use Rattle.lowering.specs.Images.{map_at}
use Rattle.lowering.specs.Lowering.{Lowering, source_rows, target_rows}
use Rattle.lowering.specs.Check.{classes}
use Rattle.soundness.specs.Sound.{IsMapped, SourceTrueBy, TargetTrueBy}

-- Some of a graph's variables: `these i w` says that row i is one of them, and w its width. Numbers for them, each within its width
abbrev pub Within : (ℕ → ℕ → Type 0) → (ℕ → ℕ) → Type 0
Within these x = (i w : ℕ) → these i w → x i < 2 ^ w

-- numbers that agree on them
abbrev pub AgreeOn : (ℕ → ℕ → Type 0) → (ℕ → ℕ) → (ℕ → ℕ) → Type 0
AgreeOn these x y = (i w : ℕ) → these i w → x i ≡ y i

module _ (L : Lowering) where
  -- "the mapped source variables", and "unmapped ones of the source"
  abbrev pub MappedVar : ℕ → ℕ → Type 0
  MappedVar i w = IsMapped L i × (node_of (row_at Source L.source.rows i) ≡ Var w)

  abbrev pub UnmappedVar : ℕ → ℕ → Type 0
  UnmappedVar i w = (i < source_rows L) × (map_at L.map i ≡ MAX) × (node_of (row_at Source L.source.rows i) ≡ Var w)

  -- the classes after the last row, which Check leaves when it accepts; "Class 0 variables of the target" by such classes
  abbrev pub classes_left : List ℕ
  classes_left = classes L (source_rows L)

  abbrev pub ClassZeroVar : List ℕ → ℕ → ℕ → Type 0
  ClassZeroVar cls r w = (r < target_rows L) × (get_or cls r 0 ≡ 0) × (node_of (row_at Target L.target.rows r) ≡ Var w)

  -- an interpretation that agrees with u on the mapped variables, an assignment that has "the same values on their images"
  abbrev pub AgreesOnMapped : Interpretation → (ℕ → ℕ) → Type 0
  AgreesOnMapped I u = AgreeOn MappedVar I.variable u

  abbrev pub AgreesOnImages : (ℕ → ℕ) → (ℕ → ℕ) → Type 0
  AgreesOnImages A u = AgreeOn MappedVar (λ i. A (map_at L.map i)) u

  -- "whatever values are fixed for them beforehand": p for the source's unmapped variables, q for the target's of class 0
  abbrev pub AgreesOnUnmapped : Interpretation → (ℕ → ℕ) → Type 0
  AgreesOnUnmapped I p = AgreeOn UnmappedVar I.variable p

  abbrev pub AgreesOnClassZero : List ℕ → (ℕ → ℕ) → (ℕ → ℕ) → Type 0
  AgreesOnClassZero cls A q = AgreeOn (ClassZeroVar cls) A q

  -- u and p "can be completed to an interpretation that makes the source roots true", by some truth: by some arrays and functions, as all variables
  -- are given
  module _ (holds : Val → Bool) where
    abbrev pub OpenInSourceBy : (ℕ → ℕ) → (ℕ → ℕ) → Type 0
    OpenInSourceBy u p = (I : Interpretation) × SourceTrueBy L holds I × AgreesOnMapped I u × AgreesOnUnmapped I p

    -- "the same values on their images can be completed in the target", with q: by some values of its other variables
    abbrev pub OpenInTargetBy : List ℕ → (ℕ → ℕ) → (ℕ → ℕ) → Type 0
    OpenInTargetBy cls u q = (A : ℕ → ℕ) × TargetTrueBy L holds A × AgreesOnImages A u × AgreesOnClassZero cls A q

    -- "for any values of the mapped source variables", the one "exactly when" the other. Numbers u need not be within the widths: those that are not
    -- are open in neither
    abbrev pub SameChoicesBy : List ℕ → Type 0
    SameChoicesBy cls =
        (u p q : ℕ → ℕ) → Within UnmappedVar p → Within (ClassZeroVar cls) q → OpenInSourceBy u p ↔ OpenInTargetBy cls u q

  -- of Check, where a root is true at any width, and of the strict check, where it is one bit (02, 2.6)
  abbrev pub OpenInSource : (ℕ → ℕ) → (ℕ → ℕ) → Type 0
  OpenInSource u p = OpenInSourceBy is_true u p

  abbrev pub OpenInTarget : List ℕ → (ℕ → ℕ) → (ℕ → ℕ) → Type 0
  OpenInTarget cls u q = OpenInTargetBy is_true cls u q

  abbrev pub SameChoices : List ℕ → Type 0
  SameChoices cls = SameChoicesBy is_true cls

  abbrev pub SameStrictChoices : List ℕ → Type 0
  SameStrictChoices cls = SameChoicesBy is_true_bit cls
