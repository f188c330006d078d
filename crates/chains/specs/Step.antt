-- One pair of a Select's walk.
-- Inner: contracts within the code cite it; no answer's definition does. Assumes nothing.
use Rattle.std.specs.Prelude.{ℕ, ◌+◌, cond, List, get_or}
use Rattle.rows.specs.declared.Graph.TheVariants.{Source}
use Rattle.rows.specs.Row.{row_at}
use Rattle.lowering.specs.declared.Walk.{Walk}
use Rattle.lowering.specs.declared.Walk.TheVariants.{RanOut, Met, Lost}
use Rattle.lowering.specs.Images.{map_at, field_at, both_const, same_const}
use Rattle.lowering.specs.Lowering.{SourceGraph}
use Rattle.lowering.specs.Matching.{is_level}

-- a pair that is no pair of constants: the walk goes on at the Ite's rest, if row r is that Ite
abbrev pub level_step : List ℕ → ℕ → ℕ → ℕ → ℕ → Walk
level_step target a b v r = cond (is_level target a b v r) (RanOut (field_at target r 3)) Lost

-- a pair with index row p and value row v from row r on, where the select index is row q with image b: a walk of one pair
abbrev pub pair_walk : SourceGraph → List ℕ → List ℕ → List ℕ → ℕ → ℕ → ℕ → ℕ → Walk
pair_walk S map target q b p v r =
    cond (both_const (row_at Source S.rows p) q)
    (cond (same_const S.bits (row_at Source S.rows p) S.bits q) (Met r v) (RanOut r))
    (level_step target (map_at map p) b (map_at map v) r)

-- the pair at s of the side list
abbrev pub pair_step : SourceGraph → List ℕ → List ℕ → List ℕ → ℕ → ℕ → ℕ → Walk
pair_step S map target q b s r = pair_walk S map target q b (get_or S.side s 0) (get_or S.side (s + 1) 0) r

-- the walk after a step: it goes on, or the step has ended it
abbrev pub onward : Walk → (ℕ → Walk) → Walk
onward (RanOut r) next = next r
onward (Met r v) next = Met r v
onward Lost next = Lost
