-- When a row, and a graph, can be evaluated in words: what acceptance gives of them.
-- Inner: contracts within the code cite it; no answer's definition does. Assumes nothing.
use Rattle.std.specs.Prelude.{ℕ, ◌<◌, ◌≤◌, ◌^◌, ◌≡◌, List, [], length, get_or}
use Rattle.sorts.specs.Sorts.{plain}
use Rattle.rows.specs.declared.Graph.TheVariants.{Target}
use Rattle.rows.specs.declared.Node.{Node}
use Rattle.rows.specs.Row.{row_count, row_at}
use Rattle.rows.specs.Node.{node_of}
use Rattle.rows.specs.Decoded.{Decoded}
use Rattle.value.specs.Val.{Val, val}
use Rattle.value.specs.Operate.{tag_of}
use Rattle.value.specs.Graph.{Assigns}
use Rattle.wf.specs.Promise.{RowFormed, WellFormed}

-- row i, a node, after rows of widths ws and numbers vs: it is well formed, widths are 1 to 64, and the numbers fit
pub record Ready (bits ws vs : List ℕ) (i : ℕ) (node : Node) : Type 0 where
  pub formed : RowFormed plain (length bits) [] (λ a. get_or ws a 0) i node
  pub positive : (a : ℕ) → a < i → 0 < get_or ws a 0
  pub narrow : (a : ℕ) → get_or ws a 0 ≤ 64
  pub fits : (a : ℕ) → get_or vs a 0 < 2 ^ get_or ws a 0
  pub clean : (k : ℕ) → get_or bits k 0 < 2
  pub decoded : Decoded node
  pub core : tag_of node < 37
  pub rows : i < length ws
  pub numbers : length vs ≡ i

-- the value of a row from its words
abbrev pub lookup : List ℕ → List ℕ → ℕ → Val
lookup ws vs a = val (get_or ws a 0) (get_or vs a 0)

-- a target with its widths, all of at most 64 bits, and words that fit its variables
pub record Evaluable (g bits given ws : List ℕ) : Type 0 where
  pub formed : WellFormed plain Target (length bits) [] g ws
  pub narrow : (a : ℕ) → get_or ws a 0 ≤ 64
  pub clean : (k : ℕ) → get_or bits k 0 < 2
  pub core : (i : ℕ) → i < row_count Target g → tag_of (node_of (row_at Target g i)) < 37
  pub assigns : Assigns (λ i. get_or given i 0) g
  pub widths : length ws ≡ row_count Target g
  pub words : length given ≡ row_count Target g
