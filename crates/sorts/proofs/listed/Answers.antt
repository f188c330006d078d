-- The lower bound is the array's entry, or no entry is. Assumes nothing.
use Prim.Native.Nat.{ℕ, ◌*◌, ◌/◌, ◌<◌, ◌≤◌}
use mathlib.Core.Path.{◌≡◌}
use mathlib.Core.List.{List}
use native.Mathlib.Omega.{arith}
use lib.ListN.{length}
use Rattle.sorts.specs.Sorts.{second_edition, sort_count, array_at, entry_of}
use Rattle.sorts.specs.Good.{Good}
use Rattle.sorts.proofs.Sorts.{rising, whole, listed_at, not_listed, unlisted-sort, listed-sort}
use Rattle.sorts.proofs.listed.Goals as goal

pub lower_bound-k-requires : goal.lower_bound-k-requires
lower_bound-k-requires c = record {
  n_in_bounds = omega arith;
  by_index = λ j k l h. rising c.args.table.now c.requires j k l (omega arith);
}

-- no entry lists the array, where the one at the bound does not
unlisted : (t : List ℕ) (array k : ℕ) → Good (second_edition t) → ((j : ℕ) → j < k → array_at t j < array)
    → ((j : ℕ) → k ≤ j → j < length t / 3 → array ≤ array_at t j) → (k < sort_count t → array_at t k ≡ array → ⊥)
    → entry_of t array ≡ sort_count t
unlisted t array k good below above other =
    let n : length t ≡ sort_count t * 3 = whole t good in
    not_listed t array k below (λ j l h. above j l (omega (arith, n, h))) good other

pub returns-then-n-k : goal.returns-then-n-k
returns-then-n-k c = record {
  sort =
      let t = c.args.table.now in
      let n : length t ≡ sort_count t * 3 = whole t c.requires in
      let b = c.lower_bound-k.ensures.bound in
      unlisted-sort t c.args.array (unlisted t c.args.array c.lower_bound-k.result c.requires b.1 b.2 (λ h e. omega (arith, n, h, c.if-n-k.true)));
}

pub returns-then-table-at : goal.returns-then-table-at
returns-then-table-at c = record {
  sort =
      let b = c.lower_bound-k.ensures.bound in
      unlisted-sort c.args.table.now c.args.array
      (unlisted c.args.table.now c.args.array c.lower_bound-k.result c.requires b.1 b.2 (λ h e. c.if-table-at.true e));
}

pub returns : goal.returns
returns c = record {
  sort =
      let t = c.args.table.now in
      let n : length t ≡ sort_count t * 3 = whole t c.requires in
      let b = c.lower_bound-k.ensures.bound in
      listed-sort t c.args.array c.lower_bound-k.result
      (listed_at t c.args.array c.lower_bound-k.result b.1 (λ j l h. b.2 j l (omega (arith, n, h))) (omega (arith, n, c.if-n-k.false))
      c.if-table-at.false);
}
