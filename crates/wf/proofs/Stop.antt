-- One pass that stops at a badly encoded or ill-formed row finds both; a good row's width is that of its line in the table. Assumes nothing.
use Prim.Native.Nat.{ℕ, ◌<◌, ◌≤◌}
use mathlib.Core.Path.{◌≡◌, refl, ◌∙◌, sym, ap}
use mathlib.Core.Bool.{Bool, true, false, cond, not}
use mathlib.Core.List.{List}
use native.Mathlib.Omega.{arith}
use borrow.Author.Tests.{eqb-false, not-false, lt-ltb}
use lib.Dec.{eqb}
use lib.ListN.{get_or}
use Rattle.lists.proofs.First.{first-at, first-none, first-before, first-hit}
use Rattle.sorts.specs.Sorts.{Sorts}
use Rattle.rows.specs.declared.Graph.{Graph}
use Rattle.rows.specs.Row.{row_count, row_at}
use Rattle.rows.specs.Node.{node_of}
use Rattle.encoding.specs.Encoding.{tag_count, row_good, row_bad, bad_row}
use Rattle.encoding.proofs.Encoding.{tags-in}
use Rattle.rules.specs.declared.lines.Join.TheVariants as join
use Rattle.rules.specs.declared.lines.Line.{Line}
use Rattle.rules.specs.declared.lines.Operands.TheVariants as operand
use Rattle.rules.specs.declared.lines.WidthFrom.TheVariants as source
use Rattle.rules.specs.Rule.{capped, node_width}
use Rattle.rules.specs.Table.{line, table, line_width}
use Rattle.rules.proofs.Table.{line-rule}
use Rattle.wf.specs.Widths.{row_width, widths_to, row_ill, ill_row}
use Rattle.wf.specs.Pass.{good_width, row_stops, stop_row}

-- a pair of tests in one: passed over, both fail
both-pass : (b : Bool) (w : ℕ) → eqb (cond b w 0) 0 ≡ false → (not b ≡ false) × (eqb w 0 ≡ false)
both-pass true w e = (refl, e)
both-pass false w e = absurd (eqb-false 0 0 e refl)

module _ (σ : Sorts) (graph : Graph) (nbits : ℕ) (side g : List ℕ) where
  passed : (i : ℕ) → row_stops σ graph nbits side g i ≡ false → (row_bad graph g i ≡ false) × (row_ill σ graph nbits side g i ≡ false)
  passed i e = both-pass (row_good graph (row_at graph g i)) (row_width σ graph nbits side g i (widths_to σ graph nbits side g i)) e

  -- the width that the line of a row's tag gives it
  abbrev by-line : List ℕ → List ℕ → List Line → ℕ
  by-line ws r lines =
      let l = get_or lines (get_or r 0 0) (line operand.Empty join.Any source.One) in
      line_width σ nbits side ws l (get_or r 1 0) (get_or r 2 0) (get_or r 3 0) (get_or r 4 0)

  -- a row whose tag there is: its line gives the width of a good row, and none to a bad one; what passes the ceiling is none
  pub line-good : (i : ℕ) (ws : List ℕ) (lines : List Line) (r : List ℕ) → lines ≡ table → r ≡ row_at graph g i → get_or r 0 0 < tag_count graph
      → capped (by-line ws r lines) ≡ good_width σ graph nbits side g i ws
  line-good i ws lines r whole e h =
      ap (λ (ls : List Line). capped (by-line ws r ls)) whole
      ∙ line-rule σ nbits side ws (get_or r 1 0) (get_or r 2 0) (get_or r 3 0) (get_or r 4 0) (get_or r 0 0) (omega (arith, h, tags-in graph))
      ∙ sym (rw (lt-ltb (get_or r 0 0) (tag_count graph) h))
      ∙ ap (λ (x : List ℕ). cond (row_good graph x) (node_width σ nbits side ws (node_of x)) 0) e

  -- a row that is passed over has the rule's width
  pub good-width : (i : ℕ) → row_stops σ graph nbits side g i ≡ false
      → good_width σ graph nbits side g i (widths_to σ graph nbits side g i) ≡ row_width σ graph nbits side g i (widths_to σ graph nbits side g i)
  good-width i e = rw (not-false (row_good graph (row_at graph g i)) (passed i e).0)

  -- the rows before the stop are good
  pub stop-good : (j : ℕ) → j < stop_row σ graph nbits side g → row_bad graph g j ≡ false
  stop-good j h = (passed j (first-before (row_stops σ graph nbits side g) (row_count graph g) j h)).0

  stop-formed : (j : ℕ) → j < stop_row σ graph nbits side g → row_ill σ graph nbits side g j ≡ false
  stop-formed j h = (passed j (first-before (row_stops σ graph nbits side g) (row_count graph g) j h)).1

  -- a pass to the end: no row is bad, none ill-formed
  pub stop-none : row_count graph g ≤ stop_row σ graph nbits side g
      → (bad_row graph g ≡ row_count graph g) × (ill_row σ graph nbits side g ≡ row_count graph g)
  stop-none h = (
    first-none (row_bad graph g) (row_count graph g) (λ j l. stop-good j (omega arith)),
    first-none (row_ill σ graph nbits side g) (row_count graph g) (λ j l. stop-formed j (omega arith)),
  )

  -- a stop in a graph without bad rows is the first ill-formed row
  pub stop-ill : stop_row σ graph nbits side g < row_count graph g → row_count graph g ≤ bad_row graph g
      → ill_row σ graph nbits side g ≡ stop_row σ graph nbits side g
  stop-ill h b =
      first-at (row_ill σ graph nbits side g) (row_count graph g) (stop_row σ graph nbits side g) h
      (rw (not-false (row_good graph (row_at graph g (stop_row σ graph nbits side g))) good) at (first-hit (row_stops σ graph nbits side g)
      (row_count graph g) h)) stop-formed
    where
      good : row_bad graph g (stop_row σ graph nbits side g) ≡ false
      good = first-before (row_bad graph g) (row_count graph g) (stop_row σ graph nbits side g) (omega arith)
