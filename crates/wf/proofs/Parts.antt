-- The pass over a graph in parts, each of whose reads have arrays of one sort: there a row's width is that by this sort. Assumes nothing.
use Prim.Native.Nat.{ℕ, ◌<◌, ◌≤◌}
use mathlib.Core.Path.{◌≡◌, refl, sym, ap, ◌∙◌}
use mathlib.Core.Bool.{Bool, true, false, cond}
use mathlib.Core.List.{List, ◌++◌}
use native.Mathlib.Nat.{not-suc-le-zero}
use borrow.Author.Tests.{ltb-true, ltb-false}
use lib.Dec.{ltb}
use lib.ListN.{get_or, drop}
use Rattle.lists.proofs.First.{first-at, first_past}
use Rattle.lists.proofs.Build.{build-start}
use Rattle.sorts.specs.Sorts.{Sorts}
use Rattle.sorts.specs.Every.{every}
use Rattle.rows.specs.declared.Graph.{Graph}
use Rattle.rows.specs.Row.{row_count, row_at}
use Rattle.rows.specs.Tags.{t_select}
use Rattle.encoding.specs.Encoding.{row_good}
use Rattle.wf.proofs.Agree.{width_same}
use Rattle.wf.specs.Widths.{row_width, widths_to}
use Rattle.wf.specs.Pass.{good_width, row_stops, stop_row, OneSort, Reached}

-- a row of such a part
pub part-width : (σ : Sorts) (graph : Graph) (nbits : ℕ) (side g : List ℕ) (from to iw cw i : ℕ) (ws : List ℕ)
    → OneSort σ graph g from to iw cw → from ≤ i → i < to
    → good_width (every iw cw) graph nbits side g i ws ≡ good_width σ graph nbits side g i ws
part-width σ graph nbits side g from to iw cw i ws one h k =
    ap (λ (w : ℕ). cond (row_good graph (row_at graph g i)) w 0) (width_same (every iw cw) σ nbits side ws (row_at graph g i) agree)
  where
    agree : get_or (row_at graph g i) 0 0 ≡ t_select → (iw ≡ σ.index (get_or (row_at graph g i) 1 0)) × (cw ≡ σ.cell (get_or (row_at graph g i) 1 0))
    agree e = let (index, cell) = one i k h e in (sym index, sym cell)

-- rows that read one array
pub one-array : (σ : Sorts) (graph : Graph) (g : List ℕ) (from to array iw cw : ℕ)
    → ((j : ℕ) → j < to → from ≤ j → get_or (row_at graph g j) 0 0 ≡ t_select → get_or (row_at graph g j) 1 0 ≡ array)
    → (iw ≡ σ.index array) × (cw ≡ σ.cell array) → OneSort σ graph g from to iw cw
one-array σ graph g from to array iw cw reads sort j h k e =
    let q = reads j h k e in (ap σ.index q ∙ sym sort.0, ap σ.cell q ∙ sym sort.1)

module _ (σ : Sorts) (graph : Graph) (nbits : ℕ) (side g base : List ℕ) where
  -- before the first row
  pub at-start : Reached σ graph nbits side g base base 0
  at-start = record { whole = refl; list = build-start (row_width σ graph nbits side g) base; on = λ j h. absurd (not-suc-le-zero h) }

  -- a pass that has come to the end, or stops where it is, is at the stop
  pub at-stop : (ws : List ℕ) (r : ℕ) → Reached σ graph nbits side g base ws r → r ≤ row_count graph g
      → (r < row_count graph g → row_stops σ graph nbits side g r ≡ true)
      → (r ≡ stop_row σ graph nbits side g) × (ws ≡ widths_to σ graph nbits side g r ++ drop r base)
  at-stop ws r reached h stops = (sym (go (ltb r (row_count graph g)) refl), reached.list)
    where
      go : (p : Bool) → ltb r (row_count graph g) ≡ p → stop_row σ graph nbits side g ≡ r
      go true e =
          let k = ltb-true r (row_count graph g) e in first-at (row_stops σ graph nbits side g) (row_count graph g) r k (stops k) reached.on
      go false e = first_past (row_stops σ graph nbits side g) (row_count graph g) r h (ltb-false r (row_count graph g) e) reached.on
