-- What a good table gives: whole entries, rising arrays, widths above 0; where a search for an array ends. Assumes nothing.
use Prim.Native.Nat.{ℕ, zero, suc, ◌+◌, ◌*◌, ◌<◌, ◌≤◌}
use mathlib.Core.Path.{◌≡◌, refl, sym, ap}
use mathlib.Core.Bool.{Bool, true, false, cond, not}
use mathlib.Core.List.{List}
use mathlib.Core.Logic.{⊎_elim}
use native.Mathlib.Nat.{not-suc-le-zero}
use native.Mathlib.Omega.{arith}
use borrow.Author.Tests.{eq-eqb, ne_eqb, ltb-true, ltb-false, lt-ltb, le-ltb, leb-true, le-leb, lt-leb, not-false}
use lib.Dec.{eqb, ltb}
use lib.ListN.{length, get_or-eq_default}
use Rattle.answers.specs.Answer.{Accepted, SortTable}
use Rattle.answers.specs.Answer.{is_accepted, keeps}
use Rattle.lists.specs.Tests.{all}
use Rattle.lists.proofs.Choice.{no_way, lt-or-ge, last-test}
use Rattle.lists.proofs.First.{first-at, first-none, first-before}
use Rattle.lists.proofs.Tests.{all_true}
use Rattle.sorts.specs.Sorts.{Edition, first_edition, second_edition, sort_answer, sort_count, array_at, index_at, cell_at, entry_of}
use Rattle.sorts.specs.Sorts.{rises, sort_good, bad_sort}
use Rattle.sorts.specs.Good.{Good}

module _ (table : List ℕ) where
  -- the first bad entry, and none
  pub sort-bad : (k : ℕ) → k < sort_count table → sort_good table k ≡ false → ((j : ℕ) → j < k → sort_good table j ≡ true)
      → sort_answer (second_edition table) ≡ SortTable k
  sort-bad k h e before =
      let f : bad_sort table ≡ k = first-at (λ j. not (sort_good table j)) (sort_count table) k h (ap not e) (λ j l. ap not (before j l)) in
      rw (f, lt-ltb _ _ h)

  pub sort-none : (k : ℕ) → sort_count table ≤ k → ((j : ℕ) → j < k → sort_good table j ≡ true) → sort_answer (second_edition table) ≡ Accepted
  sort-none k h before =
      let f : bad_sort table ≡ sort_count table = first-none (λ j. not (sort_good table j)) (sort_count table)
      (λ j l. ap not (before j (omega arith))) in
      rw (f, le-ltb (sort_count table) (sort_count table) (omega arith))

  -- an entry by its tests, in their order
  module _ (k : ℕ) where
    pub sort-cut : length table < k * 3 + 3 → sort_good table k ≡ false
    unfolding sort_good all
    sort-cut h = rw (lt-leb _ _ h)

    module _ (in-full : k * 3 + 3 ≤ length table) where
      pub sort-unsorted : rises table k ≡ false → sort_good table k ≡ false
      unfolding sort_good all
      sort-unsorted e = rw (le-leb _ _ in-full, e)

      module _ (above : rises table k ≡ true) where
        pub sort-no-index : index_at table k ≡ 0 → sort_good table k ≡ false
        unfolding sort_good all
        sort-no-index e = rw (le-leb _ _ in-full, above, e)

        pub sort-cell : 0 < index_at table k → ltb 0 (cell_at table k) ≡ sort_good table k
        unfolding sort_good all
        sort-cell h = rw (le-leb _ _ in-full, above, lt-ltb _ _ h) (last-test (ltb 0 (cell_at table k)))

  module _ (good : Good (second_edition table)) where
    good-at : (k : ℕ) → k < sort_count table → sort_good table k ≡ true
    good-at k h = not-false _ (first-before (λ j. not (sort_good table j)) (sort_count table) k (go (ltb (bad_sort table) (sort_count table)) refl
        good))
      where
        go : (b : Bool) → ltb (bad_sort table) (sort_count table) ≡ b → is_accepted (cond b (SortTable (bad_sort table)) Accepted) ≡ true
            → k < bad_sort table
        go true e x = no_way (sym x)
        go false e x = let l : sort_count table ≤ bad_sort table = ltb-false _ _ e in omega arith

    entry_whole : (k : ℕ) → k < sort_count table → k * 3 + 3 ≤ length table
    unfolding sort_good
    entry_whole k h = leb-true _ _ (all_true _ (good-at k h)).0

    entry-rises : (k : ℕ) → k < sort_count table → rises table k ≡ true
    unfolding sort_good
    entry-rises k h = (all_true _ (good-at k h)).1.0

    -- "strictly rising by array", for any two entries
    pub rising : (j k : ℕ) → j < k → k < sort_count table → array_at table j < array_at table k
    rising j zero l h = absurd (not-suc-le-zero l)
    rising j (suc k) l h =
        let next : array_at table k < array_at table (suc k) = ltb-true _ _ (entry-rises (suc k) h) in
        ⊎_elim (λ (m : j < k). let r = rising j k m (omega arith) in omega (arith, r, next))
        (λ (m : k ≤ j). let e : j ≡ k = omega arith in rw e next) (lt-or-ge j k)

    -- no entry is cut
    pub whole : length table ≡ sort_count table * 3
    whole = go (sort_count table) refl
      where
        go : (n : ℕ) → sort_count table ≡ n → length table ≡ sort_count table * 3
        go zero e = omega arith
        go (suc n) e = let w = entry_whole n (omega arith) in omega arith

  -- where a search for an array ends: at the first of the entries that are not below it
  module _ (array k : ℕ) (below : (j : ℕ) → j < k → array_at table j < array)
      (above : (j : ℕ) → k ≤ j → j < sort_count table → array ≤ array_at table j) where
    pub listed_at : k < sort_count table → array_at table k ≡ array → entry_of table array ≡ k
    listed_at h e =
        first-at (λ j. eqb (array_at table j) array) (sort_count table) k h (eq-eqb _ _ e)
        (λ j l. ne_eqb _ _ (λ (z : array_at table j ≡ array). let b : array_at table j < array = below j l in omega (arith, b, z)))

    pub not_listed : Good (second_edition table) → (k < sort_count table → array_at table k ≡ array → ⊥) → entry_of table array ≡ sort_count table
    not_listed good other = first-none (λ j. eqb (array_at table j) array) (sort_count table) (λ j h. ne_eqb _ _ (differs j h))
      where
        after : (j : ℕ) → j < sort_count table → k ≤ j → array_at table j ≡ array → ⊥
        after j h l z =
            ⊎_elim (λ (m : k < j). let r = rising good k j m h in let a = above k (omega arith) (omega arith) in omega (arith, r, a, z))
            (λ (m : j ≤ k). let e : k ≡ j = omega arith in other (omega arith) (rw e z)) (lt-or-ge k j)

        differs : (j : ℕ) → j < sort_count table → array_at table j ≡ array → ⊥
        differs j h z = ⊎_elim (λ (m : j < k). let b = below j m in omega (arith, b, z)) (λ (m : k ≤ j). after j h m z) (lt-or-ge j k)

  -- past the entries there are no widths
  pub index-past : index_at table (sort_count table) ≡ 0
  index-past = get_or-eq_default table 0 (omega arith)

  pub cell-past : cell_at table (sort_count table) ≡ 0
  cell-past = get_or-eq_default table 0 (omega arith)

  -- an array that is not listed has no widths; one that is has its entry's
  pub unlisted-sort : (array : ℕ) → entry_of table array ≡ sort_count table
      → (0 ≡ index_at table (entry_of table array)) × (0 ≡ cell_at table (entry_of table array))
  unlisted-sort array e = (rw e (sym index-past), rw e (sym cell-past))

  pub listed-sort : (array k : ℕ) → entry_of table array ≡ k
      → (index_at table k ≡ index_at table (entry_of table array)) × (cell_at table k ≡ cell_at table (entry_of table array))
  listed-sort array k e = (rw e, rw e)

  -- a search by halves among n rising entries: what the middle one says of those before it and of those after it
  module _ (n : ℕ) (rise : (j k : ℕ) → j < k → k < n → array_at table j < array_at table k) (array m : ℕ) (inside : m < n) where
    pub lower-half : array_at table m < array → (k : ℕ) → k < m + 1 → array_at table k < array
    lower-half l k h =
        ⊎_elim (λ (b : k < m). let r = rise k m b inside in omega (arith, r, l)) (λ (b : m ≤ k). let e : k ≡ m = omega arith in rw e l) (lt-or-ge k m)

    pub upper-half : array ≤ array_at table m → (k : ℕ) → m ≤ k → k < n → array ≤ array_at table k
    upper-half l k h b =
        ⊎_elim (λ (d : m < k). let r = rise m k d b in omega (arith, r, l)) (λ (d : k ≤ m). let e : k ≡ m = omega arith in rw e l) (lt-or-ge m k)

-- an edition that is accepted has the answer of acceptance, and one that is not zeroes what is lent
pub sort-accepted : (E : Edition) → Good E → sort_answer E ≡ Accepted
sort-accepted first_edition g = refl
sort-accepted (second_edition table) g = go (ltb (bad_sort table) (sort_count table)) g
  where
    go : (b : Bool) → is_accepted (cond b (SortTable (bad_sort table)) Accepted) ≡ true → cond b (SortTable (bad_sort table)) Accepted ≡ Accepted
    go true x = no_way (sym x)
    go false x = refl

pub sort-zeroes : (E : Edition) → keeps (sort_answer E) ≡ false
sort-zeroes first_edition = refl
sort-zeroes (second_edition table) = go (ltb (bad_sort table) (sort_count table))
  where
    go : (b : Bool) → keeps (cond b (SortTable (bad_sort table)) Accepted) ≡ false
    go true = refl
    go false = refl
