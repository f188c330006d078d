-- A result on copies is the result on the case's lists, and a result whose parts are the expected ones is the expected one. Assumes nothing.
use mathlib.Core.Path.{◌≡◌, ◌∙◌, sym, ap, subst}
use mathlib.Core.Bool.{Bool, true, false}
use mathlib.Core.List.{List, [], ◌∷◌}
use Prim.Native.Nat.{ℕ, ◌+◌, ◌<◌}
use Rattle.sorts.specs.Sorts.{Edition, edition}
use native.Mathlib.Omega.{arith}
use Rattle.answers.specs.declared.Words.{Words}
use Rattle.answers.specs.Result.{Told, told, told_of}
use Rattle.lowering.specs.Lowering.{Lowering, lowering_in}
use Rattle.lowering.specs.Check.{check_by}
use Rattle.cases.specs.Case.{given, has_shape}
use Rattle.paired.specs.Paired.{check_of, SameCheck, lent_at, CheckAgrees}

-- Part by part.
pub same-four : {R : Told} {a A : Words} {k K l L m M n N : List ℕ}
    → told a (k ∷ l ∷ m ∷ n ∷ []) ≡ R → a ≡ A → (k ≡ K) × (l ≡ L) → (m ≡ M) × (n ≡ N) → R ≡ told A (K ∷ L ∷ M ∷ N ∷ [])
same-four e p q r = sym e ∙ rw (p, q.0, q.1, r.0, r.1)

-- Either check: the lowering's lists are the case's; so are copies of the bits and of the lent lists.
module _ (strict second : Bool) (w ebits tbits : List ℕ) {R : Told} where
  pub check-call : (k l m n : List ℕ) {a b c d f g h i j : List ℕ} {E : Edition} → a ≡ given w 0 → b ≡ given w 2 → c ≡ given w 3 → d ≡ given w 4
      → f ≡ given w 5 → g ≡ given w 6 → h ≡ given w 7 → i ≡ given w 8 → j ≡ given w 10 → E ≡ edition second (given w 11)
      → R ≡ told_of (check_by strict (lowering_in E a ebits b c d f g h i tbits j) k l m n)
      → R ≡ told_of (check_of strict second w ebits tbits k l m n)
  check-call k l m n {a} {b} {c} {d} {f} {g} {h} {i} {j} {E} p0 p2 p3 p4 p5 p6 p7 p8 p10 p11 e =
      let same : lowering_in E a ebits b c d f g h i tbits j
      ≡ lowering_in (edition second (given w 11)) (given w 0) ebits (given w 2) (given w 3) (given w 4) (given w 5) (given w 6) (given w 7)
      (given w 8)
      tbits (given w 10) =
      rw (p0, p2, p3, p4, p5, p6, p7, p8, p10, p11) in
      e ∙ ap (λ (y : Lowering). told_of (check_by strict y k l m n)) same

  pub check-lent : {k K l L m M n N : List ℕ} → k ≡ K → l ≡ L → m ≡ M → n ≡ N
      → told_of (check_of strict second w ebits tbits k l m n) ≡ R → told_of (check_of strict second w ebits tbits K L M N) ≡ R
  check-lent {k} {K} {l} {L} {m} {M} {n} {N} p q r s e =
      ap (λ (x : List ℕ). told_of (check_of strict second w ebits tbits x L M N)) (sym p)
      ∙ ap (λ (x : List ℕ). told_of (check_of strict second w ebits tbits k x M N)) (sym q)
      ∙ ap (λ (x : List ℕ). told_of (check_of strict second w ebits tbits k l x N)) (sym r)
      ∙ ap (λ (x : List ℕ). told_of (check_of strict second w ebits tbits k l m x)) (sym s) ∙ e

pub check-bits : (strict second : Bool) (w k l m n : List ℕ) {R : Told} {b B t T : List ℕ} → b ≡ B → t ≡ T
    → told_of (check_of strict second w b t k l m n) ≡ R → told_of (check_of strict second w B T k l m n) ≡ R
check-bits strict second w k l m n {R} {b} {B} {t} {T} p q e =
    ap (λ (x : List ℕ). told_of (check_of strict second w x T k l m n)) (sym p)
    ∙ ap (λ (x : List ℕ). told_of (check_of strict second w b x k l m n)) (sym q) ∙ e

-- where the lent lists begin, and the lists from there on
pub lent-low : (second : Bool) → lent_at second < 20
lent-low true = omega arith
lent-low false = omega arith

pub check-at : (strict second : Bool) (w : List ℕ) (at : ℕ) → at ≡ lent_at second → has_shape w (at + 4) 4 ≡ true
    → SameCheck strict second w (given w 1) (given w 9) (given w at) (given w (at + 1)) (given w (at + 2)) (given w (at + 3))
    → CheckAgrees strict second w
check-at strict second w at e h s = subst Agrees e (h, s)
  where
    Agrees : ℕ → Type 0
    Agrees n =
        (has_shape w (n + 4) 4 ≡ true) × SameCheck strict second w (given w 1) (given w 9) (given w n) (given w (n + 1)) (given w (n + 2))
        (given w (n + 3))
