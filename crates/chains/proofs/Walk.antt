-- A walk pair by pair. Assumes nothing.
use Prim.Native.Nat.{ℕ, suc, ◌+◌, ◌*◌, ◌-◌, ◌<◌, ◌≤◌}
use mathlib.Core.Path.{◌≡◌, refl, sym}
use mathlib.Core.Bool.{Bool, true, false, cond}
use mathlib.Core.List.{List}
use native.Mathlib.Omega.{arith}
use lib.ListN.{get_or}
use Rattle.rows.specs.declared.Graph.TheVariants.{Source}
use Rattle.rows.specs.Row.{row_at}
use Rattle.lowering.specs.declared.Walk.{Walk}
use Rattle.lowering.specs.declared.Walk.TheVariants.{RanOut, Met, Lost}
use Rattle.lowering.specs.Images.{map_at, field_at, both_const, same_const}
use Rattle.lowering.specs.Lowering.{SourceGraph}
use Rattle.lowering.specs.Matching.{is_level, walk}
use Rattle.chains.specs.Step.{pair_step, onward}

-- a step that does not go on is where the walk ends
pub onward-stays : (w : Walk) (next : ℕ → Walk) → ((r : ℕ) → w ≡ RanOut r → ⊥) → onward w next ≡ w
onward-stays (RanOut r) next n = absurd (n r refl)
onward-stays (Met r v) next n = refl
onward-stays Lost next n = refl

module _ (S : SourceGraph) (map target : List ℕ) (j : ℕ) where
  -- the walk from row r along k pairs from s on
  abbrev pub along : ℕ → ℕ → ℕ → Walk
  along k s r = walk S map target j k s r

  abbrev pub step : ℕ → ℕ → Walk
  step s r = pair_step S map target (row_at Source S.rows j) (map_at map j) s r

  walk_more : (k s r : ℕ) → along (suc k) s r ≡ onward (step s r) (along k (s + 2))
  unfolding walk
  walk_more k s r = go (both_const (row_at Source S.rows (get_or S.side s 0)) (row_at Source S.rows j))
      (same_const S.bits (row_at Source S.rows (get_or S.side s 0)) S.bits (row_at Source S.rows j))
      (is_level target (map_at map (get_or S.side s 0)) (map_at map j) (map_at map (get_or S.side (s + 1) 0)) r)
    where
      go : (a b c : Bool)
          → cond a (cond b (Met r (get_or S.side (s + 1) 0)) (along k (s + 2) r)) (cond c (along k (s + 2) (field_at target r 3)) Lost)
          ≡ onward (cond a (cond b (Met r (get_or S.side (s + 1) 0)) (RanOut r)) (cond c (RanOut (field_at target r 3)) Lost)) (along k (s + 2))
      go true true c = refl
      go true false c = refl
      go false b true = refl
      go false b false = refl

  -- after l of k pairs: none is left, or one more step
  pub walk_end : (k s l r : ℕ) → k ≤ l → along (k - l) (s + 2 * l) r ≡ RanOut r
  unfolding walk
  walk_end k s l r h = let e : k - l ≡ 0 = omega arith in rw e

  pub walk_step : (k s l r : ℕ) → l < k → along (k - l) (s + 2 * l) r ≡ onward (step (s + 2 * l) r) (along (k - (l + 1)) (s + 2 * (l + 1)))
  walk_step k s l r h =
      let e : k - l ≡ suc (k - (l + 1)) = omega arith in
      let f : s + 2 * l + 2 ≡ s + 2 * (l + 1) = omega arith in
      rw (e, sym f) (walk_more (k - (l + 1)) (s + 2 * l) r)
