-- Laws of an entry: its tests in order, what a good entry says, where its offset lies. Assumes nothing.
use Prim.Native.Nat.{ℕ, suc, min, ◌+◌, ◌*◌, ◌/◌, ◌%◌, ◌<◌, ◌≤◌}
use mathlib.Core.Path.{◌≡◌, refl, ◌∙◌, sym}
use mathlib.Core.Bool.{true, false, not}
use mathlib.Core.List.{List}
use native.Mathlib.Nat.{suc-mul, mul-le-mul_right, le-mul_of_pos_right, le-div_iff_mul-le, div-lt_iff_lt-mul, le_of_suc-le-suc}
use native.Mathlib.Omega.{arith}
use borrow.Author.Tests.{le-leb, lt-leb, leb-true, ltb-true, not-false}
use lib.ListN.{length, get_or}
use Rattle.std.proofs.lemmas.Grind.{div_ceil_times}
use Rattle.lists.specs.Tests.{all}
use Rattle.lists.proofs.Tests.{all_true}
use Rattle.rows.specs.declared.Graph.TheVariants.{Target}
use Rattle.rows.specs.Row.{row_count}
use Rattle.lowering.specs.Tables.{entry_count, entry_good, read_good, call_good}
use Rattle.keys.proofs.Order.{fails, passes, three}
use Rattle.entries.specs.declared.Table.{Table}
use Rattle.entries.specs.declared.Table.TheVariants.{Reads, Calls}
use Rattle.entries.specs.Entries.{stride, sort_in, is_var, free, own, good, ArgsBefore}

pub stride-pos : (which : Table) (w : ℕ) → w ≡ stride which → 0 < w
stride-pos (Reads _) w e = omega arith
stride-pos (Calls _) w e = omega arith

-- entry k of w words lies at off: it counts where off is in the table, and none is left where off is past it
module _ (w : ℕ) (pos : 0 < w) (table : List ℕ) (off k : ℕ) (at : off ≡ k * w) where
  next : off + w ≡ suc k * w
  next = rw (at, suc-mul k w)

  pub number-le : k ≤ off
  number-le = rw at (le-mul_of_pos_right k pos)

  pub inside : off < length table → k < entry_count w table
  inside h = (le-div_iff_mul-le pos).1 (rw (sym next) (omega arith))

  pub past : length table ≤ off → entry_count w table ≤ k
  past h = le_of_suc-le-suc ((div-lt_iff_lt-mul pos).1 (rw (sym next) (omega arith)))

-- the entries of a table of n words, a cut one with them, are those whose offsets lie in it
module _ (n w k : ℕ) (pos : 0 < w) where
  pub in-table : k < n / w + min 1 (n % w) → k * w < n
  in-table h =
      let t = div_ceil_times n w pos in
      let m : suc k * w ≤ (n / w + min 1 (n % w)) * w = mul-le-mul_right w h in
      let e : suc k * w ≡ k * w + w = suc-mul k w in
      omega (arith, t.1, m, e)

  pub past-table : n / w + min 1 (n % w) ≤ k → n ≤ k * w
  past-table h =
      let t = div_ceil_times n w pos in
      let m : (n / w + min 1 (n % w)) * w ≤ k * w = mul-le-mul_right w h in
      omega (arith, t.0, m)

-- either table's tests by the parts that differ
good-is : (which : Table) (table target ws cls : List ℕ) (k : ℕ)
    → good which table target ws cls k
    ≡ entry_good (stride which) (is_var which (sort_in which table k).cell) table target cls k
    (own which (sort_in which table k).index table ws (row_count Target target) k)
unfolding read_good call_good
good-is (Reads _) table target ws cls k = refl
good-is (Calls _) table target ws cls k = refl

module _ (which : Table) (table target ws cls : List ℕ) (k : ℕ) where
  module _ (w off : ℕ) (size : w ≡ stride which) (at : off ≡ k * w) where
    -- the entry is cut
    pub good-cut : length table < off + w → false ≡ good which table target ws cls k
    good-cut h = fails _ (lt-leb _ _ (rw (at, size) at h)) ∙ sym (good-is which table target ws cls k)

    module _ (whole : off + w ≤ length table) where
      pub whole-at : k * stride which + stride which ≤ length table
      whole-at = rw (at, size) at whole

      -- its variable is not free
      pub good-taken : free which (sort_in which table k).cell target cls (get_or table off 0) ≡ false
          → false ≡ good which table target ws cls k
      good-taken e =
          fails _ (rw (at, size) at e) ∙ three _ _ _ _ ∙ passes _ (le-leb _ _ whole-at) ∙ sym (good-is which table target ws cls k)

      -- its own tests decide
      pub good-own : free which (sort_in which table k).cell target cls (get_or table off 0) ≡ true
          → all (own which (sort_in which table k).index table ws (row_count Target target) k)
          ≡ good which table target ws cls k
      good-own e =
          passes _ (rw (at, size) at e) ∙ three _ _ _ _ ∙ passes _ (le-leb _ _ whole-at) ∙ sym (good-is which table target ws cls k)

    -- a good entry is whole, and its variable is a row
    pub good-whole : good which table target ws cls k ≡ true → (off + w ≤ length table) × (get_or table off 0 < row_count Target target)
    good-whole e =
        let (a, (b, _)) = all_true _ (sym (good-is which table target ws cls k) ∙ e) in
        rw (at, size) (leb-true _ _ a, ltb-true _ _ b)

-- where the entries before k are good, their arguments lie in their list
pub args-within : (which : Table) (table target ws : List ℕ) (cls : ℕ → List ℕ) (k : ℕ)
    → ((j : ℕ) → j < k → not (good which table target ws (cls j) j) ≡ false) → ArgsBefore which table k
unfolding call_good
args-within (Reads _) table target ws cls k h = tt
args-within (Calls args) table target ws cls k h =
    λ l b. let (_, (_, (_, (_, (d, _))))) = all_true _ (not-false _ (h l b)) in leb-true _ _ d
