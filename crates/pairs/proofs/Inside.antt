-- What the functions on pairs of reads ask for follows from a table that has passed and a well-formed target. Assumes nothing.
use Prim.Native.Nat.{ℕ, ◌+◌, ◌<◌, ◌≤◌}
use mathlib.Core.Path.{◌≡◌, refl}
use mathlib.Core.Bool.{Bool, true, false}
use mathlib.Core.List.{List}
use native.Mathlib.Omega.{arith}
use borrow.Author.Tests.{eqb-true, eqb-false, leb-true, ltb-true}
use lib.Dec.{eqb}
use lib.ListN.{length}
use Rattle.std.specs.Result.{is_ok}
use Rattle.std.specs.declared.result.Result.{Result}
use Rattle.std.specs.declared.result.Result.TheVariants.{Ok, Err}
use Rattle.sorts.specs.Sorts.{Sorts}
use Rattle.lists.proofs.Choice.{both}
use Rattle.lists.proofs.Tests.{all_true}
use Rattle.rows.specs.declared.Graph.TheVariants.{Target}
use Rattle.rows.specs.Row.{row_count}
use Rattle.lowering.specs.Tables.{read_count, read_index, read_good}
use Rattle.lowering.specs.Roots.{Pair, bad_cong}
use Rattle.pairs.specs.Walk.{stood, walked, ReadsIn}

-- every entry is good, by the widths of the target's rows and the classes before it
pub reads_in : (σ : Sorts) (reads target ws : List ℕ) (cls : ℕ → List ℕ) → length ws ≤ row_count Target target
    → ((k : ℕ) → k < read_count reads → read_good σ reads target ws (cls k) k ≡ true) → ReadsIn reads target
unfolding read_good
reads_in σ reads target ws cls n good k h =
    let (a, (b, (c, (d, (e, _))))) = all_true _ (good k h) in
    let i : read_index reads k < length ws = ltb-true _ _ (both _ _ e).0 in
    (leb-true _ _ a, omega arith)

-- the position that a walk gives, whether all roots stand or not
abbrev pub next_of : Result ℕ ℕ → ℕ
next_of (Ok next) = next
next_of (Err at) = at

-- what a walk says: whether all roots stand, how many do, and which position it gives
module _ (troots : List ℕ) (test : ℕ → Pair → Bool) (from : ℕ) (ps : List Pair) where
  pub walked-stands : is_ok (walked troots test from ps) ≡ eqb (bad_cong troots test from ps) (length ps)
  unfolding walked
  walked-stands = go (eqb (bad_cong troots test from ps) (length ps)) (from + bad_cong troots test from ps)
    where
      go : (b : Bool) (next : ℕ) → is_ok (stood b next) ≡ b
      go true next = refl
      go false next = refl

  pub walked_next : next_of (walked troots test from ps) ≡ from + bad_cong troots test from ps
  unfolding walked
  walked_next = go (eqb (bad_cong troots test from ps) (length ps)) (from + bad_cong troots test from ps)
    where
      go : (b : Bool) (next : ℕ) → next_of (stood b next) ≡ next
      go true next = refl
      go false next = refl

  pub walked-ok : (next : ℕ) → Ok next ≡ walked troots test from ps
      → (bad_cong troots test from ps ≡ length ps) × (next ≡ from + bad_cong troots test from ps)
  unfolding walked
  walked-ok next e = go (eqb (bad_cong troots test from ps) (length ps)) refl e
    where
      go : (b : Bool) → eqb (bad_cong troots test from ps) (length ps) ≡ b → Ok next ≡ stood b (from + bad_cong troots test from ps)
          → (bad_cong troots test from ps ≡ length ps) × (next ≡ from + bad_cong troots test from ps)
      go true told is = (eqb-true _ _ told, cc)
      go false told is = cc

  pub walked-err : (at : ℕ) → Err at ≡ walked troots test from ps
      → (bad_cong troots test from ps ≡ length ps → ⊥) × (at ≡ from + bad_cong troots test from ps)
  unfolding walked
  walked-err at e = go (eqb (bad_cong troots test from ps) (length ps)) refl e
    where
      go : (b : Bool) → eqb (bad_cong troots test from ps) (length ps) ≡ b → Err at ≡ stood b (from + bad_cong troots test from ps)
          → (bad_cong troots test from ps ≡ length ps → ⊥) × (at ≡ from + bad_cong troots test from ps)
      go true told is = cc
      go false told is = (eqb-false _ _ told, cc)
