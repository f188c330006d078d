-- The answer to the lowering, refusal by refusal, and what the tables promise the roots. Assumes nothing.
use Prim.Native.Nat.{ℕ, ◌<◌, ◌≤◌}
use mathlib.Core.Path.{◌≡◌, refl, sym, ap, ◌∙◌}
use mathlib.Core.Bool.{true, false, not}
use mathlib.Core.List.{List, [], ◌∷◌, ◌++◌}
use native.Mathlib.Omega.{arith}
use borrow.Author.Tests.{eq-eqb, ne_eqb, lt-ltb, le-ltb, ltb-false}
use lib.Dec.{ltb}
use lib.ListN.{length}
use Rattle.sorts.specs.Sorts.{plain}
use Rattle.answers.specs.Answer.{Answer}
use Rattle.answers.specs.Answer.{MapLength, DeadEntry, ReadTable, CallTable}
use Rattle.answers.specs.Answer.{is_accepted}
use Rattle.lists.proofs.Build.{build-length}
use Rattle.lists.proofs.Choice.{no_way}
use Rattle.lists.proofs.First.{first-all}
use Rattle.rows.specs.declared.Graph.TheVariants.{Target}
use Rattle.wf.specs.Widths.{row_width}
use Rattle.lowering.specs.Tables.{read_count, call_count, read_classes, call_classes, read_offsets, call_offsets}
use Rattle.lowering.specs.Matching.{noted, classes_to, refused_row, all_rows_answer, dead_entry}
use Rattle.lowering.specs.Lowering.{array_sorts, Lowering, source_rows, target_rows, binding_of, entries_of}
use Rattle.lowering.specs.Check.{widths_of_target, no_classes, classes_of_reads, classes_of_tables, classes, offsets, answer_of, mismatch}
use Rattle.lowering.specs.Check.{rows_refusal}
use Rattle.lowering.specs.Check.{dead_variable, refuse, first_refusal, table_answers, root_answers, match_answers}
use Rattle.lowering.proofs.Inversion.{each, not-refused, all_pass, first-refused}
use Rattle.lowering.proofs.Refusals.{refusal-append}
use Rattle.pairs.specs.Walk.{ReadsIn}
use Rattle.pairs.proofs.Inside.{reads_in}
use Rattle.congruence.specs.Calls.{CallsIn}
use Rattle.congruence.proofs.Inside.{calls-in}

module _ (L : Lowering) where
  abbrev answer : Answer
  answer = first_refusal (match_answers L)

  abbrev pub tables_answer : Answer
  tables_answer = first_refusal (table_answers (array_sorts L) (entries_of L) L.target.rows (widths_of_target L) (no_classes L))

  abbrev pub roots_answer : Answer
  roots_answer = first_refusal (root_answers (entries_of L) L.target (widths_of_target L) L.map L.eroots L.troots)

  abbrev rest : List Answer
  rest =
      rows_refusal L
      ∷ refuse (ltb (dead_variable L) (target_rows L)) (DeadEntry (dead_variable L))
      ∷ root_answers (entries_of L) L.target (widths_of_target L) L.map L.eroots L.troots

  pub map-3 : (length L.map ≡ source_rows L → ⊥) → answer ≡ MapLength (source_rows L) (length L.map)
  unfolding first_refusal
  map-3 n = rw (ne_eqb _ _ n)

  module _ (a : length L.map ≡ source_rows L) where
    after_map : answer ≡ first_refusal (table_answers (array_sorts L) (entries_of L) L.target.rows (widths_of_target L) (no_classes L) ++ rest)
    unfolding first_refusal
    after_map = rw (eq-eqb _ _ a)

    pub tables-refuse : is_accepted tables_answer ≡ false → answer ≡ tables_answer
    tables-refuse e =
        after_map ∙ refusal-append (table_answers (array_sorts L) (entries_of L) L.target.rows (widths_of_target L) (no_classes L)) rest ∙ rw e

    module _ (b : is_accepted tables_answer ≡ true) where
      after-tables : answer ≡ first_refusal rest
      after-tables =
          after_map ∙ refusal-append (table_answers (array_sorts L) (entries_of L) L.target.rows (widths_of_target L) (no_classes L)) rest ∙ rw b

      pub rows-refuse : is_accepted (rows_refusal L) ≡ false → answer ≡ rows_refusal L
      unfolding first_refusal
      rows-refuse e = after-tables ∙ rw e

      module _ (c : is_accepted (rows_refusal L) ≡ true) where
        pub dead-14 : dead_variable L < target_rows L → answer ≡ DeadEntry (dead_variable L)
        unfolding first_refusal
        dead-14 h = after-tables ∙ rw (c, lt-ltb _ _ h)

        pub then-roots : target_rows L ≤ dead_variable L → answer ≡ roots_answer
        unfolding first_refusal
        then-roots h = after-tables ∙ rw (c, le-ltb _ _ h)

  -- all rows are passed
  pub all-rows : is_accepted (rows_refusal L) ≡ true → mismatch L ≡ source_rows L
  all-rows e =
      first-all (λ i. not (is_accepted (answer_of L i))) (source_rows L) (ltb-false _ _ (first-refused (answer_of L) (source_rows L) _ refl e))

  -- tables that pass are in range
  module _ (b : is_accepted tables_answer ≡ true) where
    pub reads-inside : ReadsIn L.reads L.target.rows
    reads-inside =
        reads_in (array_sorts L) L.reads L.target.rows (widths_of_target L) (read_classes L.reads (no_classes L)) width-count
        (let (reads, _) = each _ b in all_pass _ (read_count L.reads) (not-refused _ (ReadTable _) refl reads))
      where
        width-count : length (widths_of_target L) ≤ target_rows L
        width-count = let e = build-length (row_width plain Target (length L.target.bits) [] L.target.rows) (target_rows L) in omega arith

    pub calls-inside : CallsIn L.calls L.cargs
    calls-inside =
        calls-in L.calls L.cargs L.target.rows (widths_of_target L) (call_classes L.calls (classes_of_reads L))
        (let (_, (calls, _)) = each _ b in all_pass _ (call_count L.calls) (not-refused _ (CallTable _) refl calls))

-- the steps of the code on plain lists: what each call has answered and left
module _ (L : Lowering) (ws cls0 ent0 : List ℕ) (wide : ws ≡ widths_of_target L) (clear : cls0 ≡ no_classes L) (clear-too : ent0 ≡ no_classes L)
    (t : Answer) (cls1 ent1 : List ℕ) (tables : t ≡ first_refusal (table_answers (array_sorts L) (entries_of L) L.target.rows ws cls0))
    (marked : is_accepted t ≡ true → cls1 ≡ call_classes L.calls (read_classes L.reads cls0 (read_count L.reads)) (call_count L.calls))
    (placed : is_accepted t ≡ true → ent1 ≡ call_offsets L.calls (read_offsets L.reads ent0 (read_count L.reads)) (call_count L.calls))
    (mapped : length L.map ≡ source_rows L) where
  -- what the function has to show of its answer and the two lists
  abbrev pub Done : Answer → List ℕ → List ℕ → Type 0
  Done a cls ent =
      (a ≡ first_refusal (match_answers L)) × ((is_accepted a ≡ true → cls ≡ classes L (source_rows L)) × (is_accepted a ≡ true → ent ≡ offsets L))

  -- a refusal owes nothing of the lists
  refused : (a : Answer) (cls ent : List ℕ) → a ≡ first_refusal (match_answers L) → is_accepted a ≡ false → Done a cls ent
  refused a cls ent e n = (e, (λ h. no_way (sym h ∙ n), λ h. no_way (sym h ∙ n)))

  tables-are : t ≡ tables_answer L
  tables-are = rw (wide, clear) at tables

  pub tables-done : is_accepted t ≡ false → Done t cls1 ent1
  tables-done n = refused t cls1 ent1 (tables-are ∙ sym (tables-refuse L mapped (rw tables-are at n))) n

  module _ (ok : is_accepted t ≡ true) where
    pub passed-tables : is_accepted (tables_answer L) ≡ true
    passed-tables = rw tables-are at ok

    cls-is : cls1 ≡ classes_of_tables L
    cls-is = rw clear at (marked ok)

    ent-is : ent1 ≡ offsets L
    ent-is = rw clear-too at (placed ok)

    module _ (r : Answer) (cls2 : List ℕ) (rows : r ≡ all_rows_answer (binding_of L) (noted cls1 ent1))
        (after : cls2 ≡ classes_to (binding_of L) cls1 (refused_row (binding_of L) (noted cls1 ent1))) where
      rows_are : r ≡ rows_refusal L
      rows_are = rows ∙ rw (cls-is, ent-is)

      pub rows-done : is_accepted r ≡ false → Done r cls2 ent1
      rows-done n = refused r cls2 ent1 (rows_are ∙ sym (rows-refuse L mapped passed-tables (rw rows_are at n))) n

      module _ (good : is_accepted r ≡ true) where
        passed-rows : is_accepted (rows_refusal L) ≡ true
        passed-rows = rw rows_are at good

        classes-are : cls2 ≡ classes L (source_rows L)
        classes-are = after ∙ rw (cls-is, ent-is) (ap (classes L) (all-rows L passed-rows))

        module _ (dead : ℕ) (count : length cls2 ≡ target_rows L) (first-dead : dead ≡ dead_entry cls2 (length cls2)) where
          dead-is : dead ≡ dead_variable L
          dead-is = first-dead ∙ rw count (ap (λ (l : List ℕ). dead_entry l (target_rows L)) classes-are)

          pub dead-done : dead < length cls2 → Done (DeadEntry dead) cls2 ent1
          dead-done h =
              refused (DeadEntry dead) cls2 ent1 (ap DeadEntry dead-is ∙ sym (dead-14 L mapped passed-tables passed-rows (rw (dead-is, count) at h)))
              refl

          pub roots-done : (a : Answer) → length cls2 ≤ dead
              → a ≡ first_refusal (root_answers (entries_of L) L.target ws L.map L.eroots L.troots) → Done a cls2 ent1
          roots-done a h e =
              (rw wide at e ∙ sym (then-roots L mapped passed-tables passed-rows (rw (dead-is, count) at h)), (λ _. classes-are, λ _. ent-is))
