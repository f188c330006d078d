-- When the operations on one graph answer a case as it expects: the number, place and detail, and every lent list. Assumes nothing.
use Rattle.std.specs.Prelude.{ℕ, ◌-◌, ◌≡◌, Bool, true, cond, List, [], ◌∷◌}
use Rattle.sorts.specs.Sorts.{edition}
use Rattle.rows.specs.declared.Graph.TheVariants.{Source}
use Rattle.answers.specs.Answer.{words_of}
use Rattle.answers.specs.Result.{Result, told, told_of}
use Rattle.widths.specs.Widths.{graph_widths, target_widths, roots_answer}
use Rattle.values.specs.Values.{values}
use Rattle.cases.specs.Case.{given, answer, expected, has_shape}

-- widths of a source, of either edition, or a target on a case's rows and side list; a second edition's sorts are list 3
abbrev pub widths_of : Bool → Bool → List ℕ → List ℕ → List ℕ → Result
widths_of source second w bits lent =
    cond source (graph_widths (edition second (given w 3)) Source (given w 0) bits (given w 2) lent) (target_widths (given w 0) bits lent)

abbrev pub SameWidths : Bool → Bool → List ℕ → List ℕ → List ℕ → Type 0
SameWidths source second w bits lent = told_of (widths_of source second w bits lent) ≡ told (answer w) (expected w 0 ∷ [])

-- the bits are list 1, the lent list is the last
abbrev pub WidthsAgree : Bool → Bool → ℕ → List ℕ → Type 0
WidthsAgree source second lists w = (has_shape w lists 1 ≡ true) × SameWidths source second w (given w 1) (given w (lists - 1))

abbrev pub RootsAgree : List ℕ → Type 0
RootsAgree w = (has_shape w 2 0 ≡ true) × (words_of (roots_answer (given w 0) (given w 1)) ≡ answer w)

-- Values on a case's rows and given words
abbrev pub SameValues : List ℕ → List ℕ → List ℕ → List ℕ → Type 0
SameValues w bits widths numbers =
    told_of (values (given w 0) bits (given w 2) widths numbers) ≡ told (answer w) (expected w 0 ∷ expected w 1 ∷ [])

-- the bits are list 1, the lent lists are 3 and 4
abbrev pub ValuesAgree : List ℕ → Type 0
ValuesAgree w = (has_shape w 5 2 ≡ true) × SameValues w (given w 1) (given w 3) (given w 4)
