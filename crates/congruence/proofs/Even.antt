-- Two calls whose congruence root stands have arguments of the same widths: an Eq row takes operands of one width. Assumes nothing.
use Prim.Native.Nat.{ℕ, zero, suc, ◌-◌, ◌<◌, ◌≤◌}
use mathlib.Core.Path.{◌≡◌}
use mathlib.Core.Bool.{true}
use mathlib.Core.Logic.{⊎_elim}
use mathlib.Core.List.{List}
use native.Mathlib.Nat.{eq-or-lt_of_le}
use native.Mathlib.Omega.{arith}
use borrow.Author.Tests.{eq-eqb, ltb-true}
use lib.ListN.{get_or}
use Rattle.lists.specs.Tests.{all}
use Rattle.lists.proofs.Tests.{all_true, agree-yes}
use Rattle.lowering.specs.Tables.{call_function, arg_count, result_width, arg_width, same_function}
use Rattle.lowering.specs.Roots.{pair, all_equal, congruent, call_root, root_at}
use Rattle.congruence.specs.Calls.{EqsEven}

module _ (target ws : List ℕ) (even : EqsEven target ws) where
  -- the rows that a nest of equalities compares
  nest-even : (xs ys : ℕ → ℕ) (n r : ℕ) → all_equal target xs ys n r ≡ true → (l : ℕ) → l ≤ n → get_or ws (xs l) 0 ≡ get_or ws (ys l) 0
  unfolding all_equal
  nest-even xs ys zero r e l h = let z : l ≡ 0 = omega arith in rw z (even (xs 0) (ys 0) r e)
  nest-even xs ys (suc n) r e l h =
      let (_, (_, (last, (rest, _)))) = all_true _ e in
      ⊎_elim (λ z. rw z (even (xs (suc n)) (ys (suc n)) _ last)) (λ b. nest-even xs ys n _ rest l (omega arith)) (eq-or-lt_of_le h)

  -- the k rows on either side of a congruence root
  congruent-even : (xs ys : ℕ → ℕ) (k u v r : ℕ) → congruent target xs ys k u v r ≡ true → (l : ℕ) → l < k → get_or ws (xs l) 0 ≡ get_or ws (ys l) 0
  unfolding congruent
  congruent-even xs ys k u v r e l h =
      let (p, (_, (_, (_, (_, (_, (rows, _))))))) = all_true _ e in
      let pos = ltb-true 0 k p in
      nest-even xs ys (k - 1) _ rows l (omega arith)

  -- entries of one number, count and result whose root stands
  module _ (calls cargs troots : List ℕ) (k l q : ℕ) (stands : root_at troots (call_root calls cargs target) q (pair k l) ≡ true) where
    arguments-even : (x : ℕ) → x < arg_count calls k → arg_width calls cargs ws k x ≡ arg_width calls cargs ws l x
    unfolding root_at
    arguments-even = let (_, (root, _)) = all_true _ stands in congruent-even _ _ _ _ _ _ root

    pub one_function_lem : call_function calls k ≡ call_function calls l → arg_count calls k ≡ arg_count calls l
        → result_width calls ws k ≡ result_width calls ws l → same_function calls cargs ws k l ≡ true
    unfolding same_function all
    one_function_lem f n w =
        let below : (x : ℕ) → x < arg_count calls l → x < arg_count calls k = λ x h. omega (arith, n) in
        let widths = agree-yes (arg_width calls cargs ws k) (arg_width calls cargs ws l) (arg_count calls l) (λ x h. arguments-even x (below x h)) in
        rw (eq-eqb _ _ f, eq-eqb _ _ n, eq-eqb _ _ w, widths)
