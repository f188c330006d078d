-- The one pass over a graph's rows that looks for 16 and for ill-formed rows together; proofs/Stop has 01's order from it.
-- Inner: contracts within the code cite it; no answer's definition does. Assumes nothing.
use Rattle.std.specs.Prelude.{ℕ, ◌<◌, ◌≤◌, ◌≡◌, Bool, false, cond, List, ◌++◌, eqb, length, get_or, drop}
use Rattle.lists.specs.First.{first}
use Rattle.sorts.specs.Sorts.{Sorts}
use Rattle.rows.specs.declared.Graph.{Graph}
use Rattle.rows.specs.Row.{row_count, row_at}
use Rattle.rows.specs.Tags.{t_select}
use Rattle.encoding.specs.Encoding.{row_good}
use Rattle.wf.specs.Widths.{row_width, widths_to}

-- one pass looks for badly encoded and ill-formed rows together: a row's width, 0 where it is either
abbrev pub good_width : Sorts → Graph → ℕ → List ℕ → List ℕ → ℕ → List ℕ → ℕ
good_width σ graph nbits side g i ws = cond (row_good graph (row_at graph g i)) (row_width σ graph nbits side g i ws) 0

abbrev pub row_stops : Sorts → Graph → ℕ → List ℕ → List ℕ → ℕ → Bool
row_stops σ graph nbits side g i = eqb (good_width σ graph nbits side g i (widths_to σ graph nbits side g i)) 0

-- the first row that is badly encoded or ill-formed, or the number of rows
abbrev pub stop_row : Sorts → Graph → ℕ → List ℕ → List ℕ → ℕ
stop_row σ graph nbits side g = first (row_stops σ graph nbits side g) (row_count graph g)

-- the reads among the rows between two places have arrays of one sort
abbrev pub OneSort : Sorts → Graph → List ℕ → ℕ → ℕ → ℕ → ℕ → Type 0
OneSort σ graph g from to iw cw =
    (i : ℕ) → i < to → from ≤ i → get_or (row_at graph g i) 0 0 ≡ t_select
    → (σ.index (get_or (row_at graph g i) 1 0) ≡ iw) × (σ.cell (get_or (row_at graph g i) 1 0) ≡ cw)

-- the pass is at row i: the widths of the rows before it stand in front of what the list held, and none of them stops the pass
pub record Reached (σ : Sorts) (graph : Graph) (nbits : ℕ) (side g base ws : List ℕ) (i : ℕ) : Type 0 where
  pub whole : length ws ≡ length base
  pub list : ws ≡ widths_to σ graph nbits side g i ++ drop i base
  pub on : (j : ℕ) → j < i → row_stops σ graph nbits side g j ≡ false
