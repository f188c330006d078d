-- What the two tables give: each entry's variable, its class and its offset, and whose a place with a class is. Assumes nothing.
use Prim.Native.Nat.{ℕ, ◌+◌, ◌*◌, ◌<◌, ◌≤◌}
use mathlib.Core.Path.{◌≡◌, refl, sym, ◌∙◌}
use mathlib.Core.Bool.{true}
use mathlib.Core.Logic.{◌⊎◌, inl, inr, ⊎_elim}
use mathlib.Core.List.{List, []}
use native.Mathlib.Omega.{arith}
use borrow.Author.Tests.{eqb-true, ltb-true, leb-true, leb-false}
use lib.ListN.{length, get_or, replicate, length-replicate, get_or-replicate}
use Rattle.sorts.specs.Sorts.{Sorts, plain}
use Rattle.lists.specs.Trace.{marks}
use Rattle.lists.proofs.Build.{build-length}
use Rattle.lists.proofs.Choice.{both}
use Rattle.lists.proofs.First.{none-at}
use Rattle.lists.proofs.Tests.{all_true}
use Rattle.rows.specs.declared.Graph.{Graph}
use Rattle.rows.specs.declared.Graph.TheVariants.{Target}
use Rattle.rows.specs.declared.Node.TheVariants.{Var}
use Rattle.rows.specs.Row.{row_count, row_at}
use Rattle.rules.specs.Rule.{has_width}
use Rattle.wf.specs.Widths.{row_width, widths}
use Rattle.lowering.specs.Images.{field_at}
use Rattle.lowering.specs.Tables.{read_count, read_var, read_array, read_index, call_count, call_var, call_start, arg_count, call_arg, read_good}
use Rattle.lowering.specs.Tables.{call_good}
use Rattle.lowering.specs.Tables.{read_classes, call_classes, read_offsets}
use Rattle.lowering.specs.Lowering.{array_sorts, Lowering, target_rows}
use Rattle.lowering.specs.Check.{widths_of_target, no_classes, classes_of_reads, classes_of_tables, offsets}
use Rattle.lowering.proofs.Marks.{marks-length}
use Rattle.lowering.proofs.Images.{row_is_lem}
use Rattle.soundness.proofs.Facts.{T}
use Rattle.soundness.specs.Passed.{Reached}
use Rattle.soundness.proofs.Images.{var-row}
use Rattle.soundness.proofs.Marks.{table_at, table-stay, table-from}

-- a row that has a width among a graph's widths is a row of that graph, and of that width
pub row-of-width : (σ : Sorts) (graph : Graph) (nbits : ℕ) (side g : List ℕ) (a w : ℕ) → has_width (widths σ graph nbits side g) a w ≡ true
    → (a < row_count graph g) × (get_or (widths σ graph nbits side g) a 0 ≡ w)
row-of-width σ graph nbits side g a w e =
    let (h, t) = both _ _ e in (rw (build-length (row_width σ graph nbits side g) (row_count graph g)) at (ltb-true a _ h), eqb-true _ _ t)

-- a target row is the variable of some entry
module _ (L : Lowering) where
  abbrev pub ReadAt : ℕ → Type 0
  ReadAt r = (q : ℕ) × (q < read_count L.reads) × (read_var L.reads q ≡ r)

  abbrev pub CallAt : ℕ → Type 0
  CallAt r = (q : ℕ) × (q < call_count L.calls) × (call_var L.calls q ≡ r)

module _ (L : Lowering) {N : ℕ} (E : Reached L N) where
  -- what the tests of an entry say
  pub read-facts : (q : ℕ) → q < read_count L.reads
      → (read_var L.reads q < target_rows L) × (T L (read_var L.reads q) ≡ Var ((array_sorts L).cell (read_array L.reads q)))
      × (get_or (read_classes L.reads (no_classes L) q) (read_var L.reads q) 0 ≡ 0)
      × (has_width (widths_of_target L) (read_index L.reads q) ((array_sorts L).index (read_array L.reads q)) ≡ true)
  unfolding read_good
  read-facts q h =
      let (_, (a, (b, (c, (d, _))))) = all_true _ (E.reads q h) in (
        ltb-true _ _ a,
        row_is_lem (row_at Target L.target.rows (read_var L.reads q)) (Var ((array_sorts L).cell (read_array L.reads q))) tt b,
        eqb-true _ _ c,
        d,
      )

  pub call_facts : (q : ℕ) → q < call_count L.calls
      → (call_var L.calls q < target_rows L) × (T L (call_var L.calls q) ≡ Var (field_at L.target.rows (call_var L.calls q) 1))
      × (get_or (call_classes L.calls (classes_of_reads L) q) (call_var L.calls q) 0 ≡ 0)
      × ((l : ℕ) → l < arg_count L.calls q → call_arg L.calls L.cargs q l < target_rows L)
  unfolding call_good
  call_facts q h =
      let (_, (a, (b, (c, (_, (d, _)))))) = all_true _ (E.calls q h) in (
        ltb-true _ _ a,
        var-row (row_at Target L.target.rows (call_var L.calls q)) (eqb-true _ _ b),
        eqb-true _ _ c,
        λ l u. leb-false (target_rows L) (call_arg L.calls L.cargs q l) (none-at _ (arg_count L.calls q) d l u),
      )

  -- an entry is whole, and so are a call's arguments
  pub read_whole : (q : ℕ) → q < read_count L.reads → q * 3 + 3 ≤ length L.reads
  unfolding read_good
  read_whole q h = leb-true _ _ (all_true _ (E.reads q h)).0

  pub call-whole : (q : ℕ) → q < call_count L.calls
      → (q * 4 + 4 ≤ length L.calls) × (call_start L.calls q + arg_count L.calls q ≤ length L.cargs)
  unfolding call_good
  call-whole q h = let (a, (_, (_, (_, (b, _))))) = all_true _ (E.calls q h) in (leb-true _ _ a, leb-true _ _ b)

  -- the index of a read is a row of its width
  pub read-index : (q : ℕ) → q < read_count L.reads
      → (read_index L.reads q < target_rows L) × (get_or (widths_of_target L) (read_index L.reads q) 0 ≡ (array_sorts L).index (read_array L.reads q))
  read-index q h = row-of-width plain Target (length L.target.bits) [] L.target.rows _ _ (read-facts q h).3

  start-length : length (no_classes L) ≡ target_rows L
  start-length = length-replicate {A = ℕ} (target_rows L) 0

  reads-length : length (classes_of_reads L) ≡ target_rows L
  reads-length = marks-length (read_var L.reads) (λ k. 2) (no_classes L) (read_count L.reads) ∙ start-length

  pub tables-length : length (classes_of_tables L) ≡ target_rows L
  tables-length = marks-length (call_var L.calls) (λ k. 3) (classes_of_reads L) (call_count L.calls) ∙ reads-length

  abbrev read_offs : List ℕ
  read_offs = read_offsets L.reads (replicate (target_rows L) 0) (read_count L.reads)

  offs-length : length read_offs ≡ length (classes_of_reads L)
  offs-length = marks-length (read_var L.reads) (λ k. k * 3) (no_classes L) (read_count L.reads) ∙ start-length ∙ sym reads-length

  read-inside : (k : ℕ) → k < read_count L.reads → read_var L.reads k < length (no_classes L)
  read-inside k h = rw start-length (read-facts k h).0

  call-inside : (k : ℕ) → k < call_count L.calls → call_var L.calls k < length (classes_of_reads L)
  call-inside k h = rw reads-length (call_facts k h).0

  -- numbers that the entries put at their variables stand there after their table, the reads' also after the calls'
  at_reads : (number : ℕ → ℕ) (q : ℕ) → q < read_count L.reads
      → get_or (marks (read_var L.reads) number (no_classes L) (read_count L.reads)) (read_var L.reads q) 0 ≡ number q
  at_reads number =
      table_at (read_var L.reads) 2 (read_count L.reads) (no_classes L) (omega arith) read-inside (λ k h. (read-facts k h).2) number (no_classes L)
      refl

  at-calls : (number : ℕ → ℕ) (e : List ℕ) → length e ≡ length (classes_of_reads L) → (q : ℕ) → q < call_count L.calls
      → get_or (marks (call_var L.calls) number e (call_count L.calls)) (call_var L.calls q) 0 ≡ number q
  at-calls number e size =
      table_at (call_var L.calls) 3 (call_count L.calls) (classes_of_reads L) (omega arith) call-inside (λ k h. (call_facts k h).2) number e size

  past-calls : (number : ℕ → ℕ) (e : List ℕ) → length e ≡ length (classes_of_reads L) → (q : ℕ) → q < read_count L.reads
      → get_or (marks (call_var L.calls) number e (call_count L.calls)) (read_var L.reads q) 0 ≡ get_or e (read_var L.reads q) 0
  past-calls number e size q h =
      table-stay (call_var L.calls) 3 (call_count L.calls) (classes_of_reads L) (omega arith) call-inside (λ k h. (call_facts k h).2) number e size
      (read_var L.reads q)
      (rw (at_reads (λ k. 2) q h) (omega arith))

  pub class-of-read : (q : ℕ) → q < read_count L.reads → get_or (classes_of_tables L) (read_var L.reads q) 0 ≡ 2
  class-of-read q h = past-calls (λ k. 3) (classes_of_reads L) refl q h ∙ at_reads (λ k. 2) q h

  pub offset-of-read : (q : ℕ) → q < read_count L.reads → get_or (offsets L) (read_var L.reads q) 0 ≡ q * 3
  offset-of-read q h = past-calls (λ k. k * 4) read_offs offs-length q h ∙ at_reads (λ k. k * 3) q h

  pub class-of-call : (q : ℕ) → q < call_count L.calls → get_or (classes_of_tables L) (call_var L.calls q) 0 ≡ 3
  class-of-call q h = at-calls (λ k. 3) (classes_of_reads L) refl q h

  pub offset-of-call : (q : ℕ) → q < call_count L.calls → get_or (offsets L) (call_var L.calls q) 0 ≡ q * 4
  offset-of-call q h = at-calls (λ k. k * 4) read_offs offs-length q h

  -- a row of the target has no class, or has it from an entry
  pub class-from : (r : ℕ) → r < target_rows L → (get_or (classes_of_tables L) r 0 ≡ 0) ⊎ (ReadAt L r ⊎ CallAt L r)
  class-from r u =
      ⊎_elim (λ e. ⊎_elim (λ f. inl (e ∙ f ∙ get_or-replicate {A = ℕ} (target_rows L) r 0 0 u)) (λ x. inr (inl x)) reads) (λ x. inr (inr x)) calls
    where
      reads : (get_or (classes_of_reads L) r 0 ≡ get_or (no_classes L) r 0) ⊎ ReadAt L r
      reads =
          table-from (read_var L.reads) 2 (read_count L.reads) (no_classes L) (omega arith) read-inside (λ k h. (read-facts k h).2) (λ k. 2)
          (no_classes L) refl r

      calls : (get_or (classes_of_tables L) r 0 ≡ get_or (classes_of_reads L) r 0) ⊎ CallAt L r
      calls =
          table-from (call_var L.calls) 3 (call_count L.calls) (classes_of_reads L) (omega arith) call-inside (λ k h. (call_facts k h).2) (λ k. 3)
          (classes_of_reads L) refl r
