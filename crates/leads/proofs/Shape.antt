-- Laws of the parts of a congruence root. Assumes nothing.
use Prim.Native.Nat.{ℕ, zero, suc, ◌-◌, ◌<◌, ◌≤◌}
use mathlib.Core.Path.{◌≡◌, refl, sym, ◌∙◌}
use mathlib.Core.Bool.{Bool, true, false, cond}
use mathlib.Core.List.{List, [], ◌∷◌}
use borrow.Author.Tests.{lt-ltb, le-ltb}
use lib.Dec.{eqb, ltb}
use Rattle.std.specs.declared.option.Option.TheVariants.{Some, None}
use Rattle.lists.specs.Tests.{all}
use Rattle.rows.specs.declared.Graph.TheVariants.{Target}
use Rattle.rows.specs.Row.{row_count}
use Rattle.lowering.specs.Images.{tag_at, field_at}
use Rattle.lowering.specs.Matching.{is_eq}
use Rattle.lowering.specs.Roots.{all_equal, congruent}
use Rattle.images.proofs.Equality.{eq-out}
use Rattle.lists.proofs.Choice.{last-test}
use Rattle.leads.specs.Shape.{implies, antecedent}

module _ (target : List ℕ) (xs ys : ℕ → ℕ) where
  -- a row out of range does not say that sequences agree
  pub all-out : (n r : ℕ) → row_count Target target ≤ r → all_equal target xs ys n r ≡ false
  unfolding all_equal all
  all-out zero r h = eq-out target (xs 0) (ys 0) r h
  all-out (suc n) r h = rw (le-ltb _ _ h)

  -- a congruence root by its antecedent
  module _ (k u v r : ℕ) where
    by-shape : 0 < k
        → congruent target xs ys k u v r
        ≡ cond (implies target u v r) (all_equal target xs ys (k - 1) (field_at target (field_at target r 1) 1)) false
    unfolding congruent implies all
    by-shape h =
        rw (lt-ltb 0 k h)
        (go (ltb r (row_count Target target)) (eqb (tag_at target r) 31) (is_eq target u v (field_at target r 2))
        (ltb (field_at target r 1) (row_count Target target)) (eqb (tag_at target (field_at target r 1)) 29)
        (all_equal target xs ys (k - 1) (field_at target (field_at target r 1) 1)))
      where
        go : (b c d e f g : Bool) → all (b ∷ c ∷ d ∷ e ∷ f ∷ g ∷ []) ≡ cond (all (b ∷ c ∷ d ∷ e ∷ f ∷ [])) g false
        go true true true true true g = sym (last-test g)
        go true true true true false g = refl
        go true true true false f g = refl
        go true true false e f g = refl
        go true false d e f g = refl
        go false c d e f g = refl

    shape-some : (a : ℕ) → antecedent target u v r ≡ Some a
        → (implies target u v r ≡ true) × (field_at target (field_at target r 1) 1 ≡ a)
    shape-some a = go (implies target u v r)
      where
        go : (b : Bool) → cond b (Some (field_at target (field_at target r 1) 1)) None ≡ Some a
            → (b ≡ true) × (field_at target (field_at target r 1) 1 ≡ a)
        go true e = (refl, cc)
        go false e = cc

    pub by-antecedent : 0 < k → (a : ℕ) → antecedent target u v r ≡ Some a
        → congruent target xs ys k u v r ≡ all_equal target xs ys (k - 1) a
    by-antecedent h a e = let p = shape-some a e in by-shape h ∙ rw (p.0, p.1)

    pub no-antecedent : 0 < k → antecedent target u v r ≡ None → congruent target xs ys k u v r ≡ false
    no-antecedent h e = by-shape h ∙ go (implies target u v r) e
      where
        go : (b : Bool) → cond b (Some (field_at target (field_at target r 1) 1)) None ≡ None
            → cond b (all_equal target xs ys (k - 1) (field_at target (field_at target r 1) 1)) false ≡ false
        go true n = cc
        go false n = refl
