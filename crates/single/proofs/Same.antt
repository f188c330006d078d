-- A result on copies is the result on the case's lists, and a result whose parts are the expected ones is the expected one. Assumes nothing.
use mathlib.Core.Path.{◌≡◌, ◌∙◌, sym, ap}
use mathlib.Core.Bool.{Bool, true, false}
use mathlib.Core.List.{List, [], ◌∷◌}
use Prim.Native.Nat.{ℕ}
use Rattle.sorts.specs.Sorts.{Edition, edition}
use Rattle.rows.specs.declared.Graph.TheVariants.{Source}
use Rattle.answers.specs.declared.Words.{Words}
use Rattle.answers.specs.Result.{Told, told, told_of}
use Rattle.widths.specs.Widths.{graph_widths, target_widths}
use Rattle.values.specs.Values.{values}
use Rattle.cases.specs.Case.{given}
use Rattle.single.specs.Single.{widths_of}

-- Part by part.
pub same-one : {R : Told} {a A : Words} {l L : List ℕ} → told a (l ∷ []) ≡ R → a ≡ A → l ≡ L → R ≡ told A (L ∷ [])
same-one e p q = sym e ∙ rw (p, q)

pub same-two : {R : Told} {a A : Words} {k K l L : List ℕ} → told a (k ∷ l ∷ []) ≡ R → a ≡ A → (k ≡ K) × (l ≡ L) → R ≡ told A (K ∷ L ∷ [])
same-two e p q = sym e ∙ rw (p, q.0, q.1)

-- Widths: the rows, the side list and the sorts are the case's; so are copies of the bits and of the lent list.
module _ (second : Bool) (w bits lent : List ℕ) {R : Told} {source : Bool} {rows : List ℕ} (p : rows ≡ given w 0) where
  pub source-call : {side : List ℕ} {E : Edition} → side ≡ given w 2 → E ≡ edition second (given w 3) → source ≡ true
      → R ≡ told_of (graph_widths E Source rows bits side lent) → R ≡ told_of (widths_of source second w bits lent)
  source-call {side} {E} q r s e =
      e ∙ ap (λ (x : List ℕ). told_of (graph_widths E Source x bits side lent)) p
      ∙ ap (λ (x : List ℕ). told_of (graph_widths E Source (given w 0) bits x lent)) q
      ∙ ap (λ (x : Edition). told_of (graph_widths x Source (given w 0) bits (given w 2) lent)) r
      ∙ ap (λ (b : Bool). told_of (widths_of b second w bits lent)) (sym s)

  pub target-call : source ≡ false → R ≡ told_of (target_widths rows bits lent) → R ≡ told_of (widths_of source second w bits lent)
  target-call s e =
      e ∙ ap (λ (x : List ℕ). told_of (target_widths x bits lent)) p ∙ ap (λ (b : Bool). told_of (widths_of b second w bits lent)) (sym s)

pub widths-copied : (source second : Bool) (w : List ℕ) {R : Told} {b B l L : List ℕ} → b ≡ B → l ≡ L
    → told_of (widths_of source second w b l) ≡ R → told_of (widths_of source second w B L) ≡ R
widths-copied source second w {R} {b} {B} {l} {L} p q e =
    ap (λ (x : List ℕ). told_of (widths_of source second w x L)) (sym p) ∙ ap (λ (x : List ℕ). told_of (widths_of source second w b x)) (sym q) ∙ e

-- Values: the rows and the given words are the case's; so are copies of the bits and of the lent lists.
pub values-call : (w b k l : List ℕ) {R : Told} {t g : List ℕ} → t ≡ given w 0 → g ≡ given w 2
    → told_of (values t b g k l) ≡ R → told_of (values (given w 0) b (given w 2) k l) ≡ R
values-call w b k l {R} {t} {g} p q e =
    ap (λ (x : List ℕ). told_of (values x b (given w 2) k l)) (sym p) ∙ ap (λ (x : List ℕ). told_of (values t b x k l)) (sym q) ∙ e

pub values-copied : (t g : List ℕ) {R : Told} {b B k K l L : List ℕ} → b ≡ B → k ≡ K → l ≡ L
    → told_of (values t b g k l) ≡ R → told_of (values t B g K L) ≡ R
values-copied t g {R} {b} {B} {k} {K} {l} {L} p q r e =
    ap (λ (x : List ℕ). told_of (values t x g K L)) (sym p) ∙ ap (λ (x : List ℕ). told_of (values t b g x L)) (sym q)
    ∙ ap (λ (x : List ℕ). told_of (values t b g k x)) (sym r) ∙ e
