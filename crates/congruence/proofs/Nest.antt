-- Laws of a nest of argument equalities. Assumes nothing.
use Prim.Native.Nat.{ℕ, suc, ◌-◌, ◌<◌, ◌≤◌}
use mathlib.Core.Path.{◌≡◌, sym, ap, ◌∙◌, subst}
use mathlib.Core.Bool.{true, false}
use mathlib.Core.List.{List}
use native.Mathlib.Omega.{arith}
use borrow.Author.Tests.{lt-ltb}
use lib.Dec.{eqb}
use Rattle.lists.specs.Tests.{all}
use Rattle.lists.proofs.Choice.{last-test}
use Rattle.rows.specs.declared.Graph.TheVariants.{Target}
use Rattle.rows.specs.Row.{row_count}
use Rattle.rows.specs.Tags.{t_bool_and}
use Rattle.lowering.specs.Images.{tag_at, field_at}
use Rattle.lowering.specs.Matching.{is_eq}
use Rattle.lowering.specs.Roots.{all_equal}

module _ (target : List ℕ) (xs ys : ℕ → ℕ) where
  -- the innermost row is the first equality
  pub all_one : (n r : ℕ) → n ≤ 0 → all_equal target xs ys n r ≡ is_eq target (xs 0) (ys 0) r
  unfolding all_equal
  all_one n r h = let z : n ≡ 0 = omega arith in rw z

  -- the outermost BoolAnd: its row is in range and has the tag, and its second operand is the last equality
  module _ (n r : ℕ) (more : 0 < n) (inside : r < row_count Target target) where
    pub all-tag : eqb (tag_at target r) t_bool_and ≡ false → all_equal target xs ys n r ≡ false
    unfolding all_equal all
    all-tag e = let z : n ≡ suc (n - 1) = omega arith in rw (z, lt-ltb _ _ inside, e)

    pub all-last : eqb (tag_at target r) t_bool_and ≡ true → is_eq target (xs n) (ys n) (field_at target r 2) ≡ false
        → all_equal target xs ys n r ≡ false
    unfolding all_equal all
    all-last e q = let z : n ≡ suc (n - 1) = omega arith in rw (z, lt-ltb _ _ inside, e, rw z at q)

    pub all_rest : eqb (tag_at target r) t_bool_and ≡ true → is_eq target (xs n) (ys n) (field_at target r 2) ≡ true
        → all_equal target xs ys n r ≡ all_equal target xs ys (n - 1) (field_at target r 1)
    unfolding all_equal all
    all_rest e q =
        let z : n ≡ suc (n - 1) = omega arith in
        ap (λ (i : ℕ). all_equal target xs ys i r) z
        ∙ rw (lt-ltb _ _ inside, e, subst (λ (i : ℕ). is_eq target (xs i) (ys i) (field_at target r 2) ≡ true) z q)
        (sym (last-test (all_equal target xs ys (n - 1) (field_at target r 1))))
