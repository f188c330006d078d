-- The operation Check (01, 'Operations and what they refuse') and the strict check beside it (02, 2.6), which are one definition with a switch: the
-- answer, and the four lists that are left. Assumes nothing.
use Rattle.std.specs.Prelude.{ℕ, ◌+◌, Bool, true, false, not, cond, List, [], ◌∷◌, ◌++◌, eqb, ltb, length, replicate}
use Rattle.sorts.specs.Sorts.{Sorts, Edition, plain, sorts_of, sort_answer}
use Rattle.answers.specs.Answer.{Answer}
use Rattle.answers.specs.Answer.{Accepted, Ext, Core, RowCount, BadRow, BadBit, WorkShort, MapLength, ReadTable, CallTable}
use Rattle.answers.specs.Answer.{DeadEntry, RootMismatch, CongruenceMismatch, BadRoot}
use Rattle.answers.specs.Answer.{is_accepted}
use Rattle.answers.specs.Result.{Result, leaves}
use Rattle.rows.specs.declared.Graph.TheVariants.{Source, Target}
use Rattle.rows.specs.Row.{row_count, ragged}
use Rattle.encoding.specs.Encoding.{bad_row, bad_bit}
use Rattle.wf.specs.Widths.{ill_row, widths, bad_root}
use Rattle.lowering.specs.Lowering.{SourceGraph, TargetGraph, Lowering, Entries, array_sorts, source_rows, target_rows, binding_of, entries_of}
use Rattle.lowering.specs.Tables.{read_count, call_count, bad_read, bad_call, read_classes, call_classes, read_offsets, call_offsets}
use Rattle.lowering.specs.Matching.{noted, row_answer, classes_to, refused_row, all_rows_answer, dead_entry}
use Rattle.lowering.specs.Roots.{Pair, bad_lead, read_pairs, call_pairs, read_root, call_root, bad_cong}

-- the row of each graph that is named as ill-formed, or the number of rows; σ are the sorts of the source's arrays
abbrev pub source_ill : Sorts → SourceGraph → ℕ
source_ill σ S = ill_row σ Source (length S.bits) S.side S.rows

abbrev pub target_ill : TargetGraph → ℕ
target_ill T = ill_row plain Target (length T.bits) [] T.rows

-- the widths of each graph's rows
abbrev pub source_row_widths : Sorts → SourceGraph → List ℕ
source_row_widths σ S = widths σ Source (length S.bits) S.side S.rows

abbrev pub target_row_widths : TargetGraph → List ℕ
target_row_widths T = widths plain Target (length T.bits) [] T.rows

module _ (L : Lowering) where
  abbrev pub widths_of_source : List ℕ
  widths_of_source = source_row_widths (array_sorts L) L.source

  abbrev pub widths_of_target : List ℕ
  widths_of_target = target_row_widths L.target

  -- "Each target row has a class, first 0": classes before the calls, before the rows, before row n
  abbrev pub no_classes : List ℕ
  no_classes = replicate (target_rows L) 0

  abbrev pub classes_of_reads : List ℕ
  classes_of_reads = read_classes L.reads no_classes (read_count L.reads)

  abbrev pub classes_of_tables : List ℕ
  classes_of_tables = call_classes L.calls classes_of_reads (call_count L.calls)

  abbrev pub classes : ℕ → List ℕ
  classes n = classes_to (binding_of L) classes_of_tables n

  abbrev pub offsets : List ℕ
  offsets = call_offsets L.calls (read_offsets L.reads (replicate (target_rows L) 0) (read_count L.reads)) (call_count L.calls)

  -- the answer of row i, the first row that is refused, and the answer of all rows
  abbrev pub answer_of : ℕ → Answer
  answer_of i = row_answer (binding_of L) (noted (classes i) offsets) i

  abbrev pub mismatch : ℕ
  mismatch = refused_row (binding_of L) (noted classes_of_tables offsets)

  abbrev pub rows_refusal : Answer
  rows_refusal = all_rows_answer (binding_of L) (noted classes_of_tables offsets)

  abbrev pub dead_variable : ℕ
  dead_variable = dead_entry (classes (source_rows L)) (target_rows L)

  abbrev pub pairs_of_reads : List Pair
  pairs_of_reads = read_pairs L.reads L.target.rows L.target.bits

  abbrev pub pairs_of_calls : List Pair
  pairs_of_calls = call_pairs L.calls L.cargs widths_of_target

  -- where the roots of the calls' pairs begin, and where all roots end
  abbrev pub call_roots : ℕ
  call_roots = length L.eroots + length pairs_of_reads

  abbrev pub roots_end : ℕ
  roots_end = call_roots + length pairs_of_calls

-- a refusal where a test passes
abbrev pub refuse : Bool → Answer → Answer
refuse b a = cond b a Accepted

-- the first refusal of some answers, in their order
unfoldable pub first_refusal : List Answer → Answer
first_refusal [] = Accepted
first_refusal (a ∷ more) = cond (is_accepted a) (first_refusal more) a

-- "15 RowCount: a graph's word count is no multiple of its row (place 1 source, 2 target). 18 WorkShort: a work list is shorter than its graph
-- (1 source widths, 2 target widths, 3 classes, 4 entries)"
abbrev pub count_answers : SourceGraph → TargetGraph → ℕ → ℕ → ℕ → ℕ → List Answer
count_answers S T w0 w1 c e =
    refuse (ragged Source S.rows) (RowCount 1)
    ∷ refuse (ragged Target T.rows) (RowCount 2)
    ∷ refuse (ltb w0 (row_count Source S.rows)) (WorkShort 1)
    ∷ refuse (ltb w1 (row_count Target T.rows)) (WorkShort 2)
    ∷ refuse (ltb c (row_count Target T.rows)) (WorkShort 3)
    ∷ refuse (ltb e (row_count Target T.rows)) (WorkShort 4)
    ∷ []

-- "16 BadRow: .. (row; detail 1 or 2 for the graph). 17 BadBit: .. (position; 1 or 2) .. where one has two causes, the source or lower list goes
-- first"; the sort table's answer, "28 SortTable .. after 17" (02, 2.9); "Then 1 Ext (row); 2 Core (row)", of the rows named as ill-formed, if they
-- are rows
abbrev pub graph_answers : Answer → SourceGraph → TargetGraph → ℕ → ℕ → List Answer
graph_answers sort S T ill0 ill1 =
    refuse (ltb (bad_row Source S.rows) (row_count Source S.rows)) (BadRow (bad_row Source S.rows) 1)
    ∷ refuse (ltb (bad_row Target T.rows) (row_count Target T.rows)) (BadRow (bad_row Target T.rows) 2)
    ∷ refuse (ltb (bad_bit S.bits) (length S.bits)) (BadBit (bad_bit S.bits) 1)
    ∷ refuse (ltb (bad_bit T.bits) (length T.bits)) (BadBit (bad_bit T.bits) 2)
    ∷ sort
    ∷ refuse (ltb ill0 (row_count Source S.rows)) (Ext ill0)
    ∷ refuse (ltb ill1 (row_count Target T.rows)) (Core ill1)
    ∷ []

-- those of an edition: "28 SortTable (first entry) for a cut, unsorted or zero-width entry", and "a Select takes its widths from there" (02, 2.9)
abbrev pub forms_of : Edition → SourceGraph → TargetGraph → List Answer
forms_of E S T = graph_answers (sort_answer E) S T (source_ill (sorts_of E) S) (target_ill T)

abbrev pub graphs_answer : Edition → SourceGraph → TargetGraph → Answer
graphs_answer E S T = first_refusal (forms_of E S T)

-- "It looks at source roots, then target roots, with 19 BadRoot (position; detail 1 source, 2 target)" (02, 2.6), each by the widths of its graph's
-- rows; 01's Check: "Roots' widths are not examined by the checker"
abbrev pub bit_answers : Bool → List ℕ → List ℕ → List ℕ → List ℕ → List Answer
bit_answers strict ws0 eroots ws1 troots =
    cond strict
    (refuse (ltb (bad_root ws0 eroots) (length eroots)) (BadRoot (bad_root ws0 eroots) 1)
    ∷ refuse (ltb (bad_root ws1 troots) (length troots)) (BadRoot (bad_root ws1 troots) 2)
    ∷ [])
    []

-- two graphs with their roots: 19 stands "directly after target well-formedness" (02, 2.6)
abbrev pub form_answers : Bool → Edition → SourceGraph → TargetGraph → List ℕ → List ℕ → List Answer
form_answers strict E S T eroots troots =
    forms_of E S T ++ bit_answers strict (source_row_widths (sorts_of E) S) eroots (target_row_widths T) troots

-- "12 RootMismatch; 13 CongruenceMismatch (position in the target root list, possibly its length); 12 for surplus roots."
-- The place of 12 is the position of the first source root that has no image, differs or finds the list ended; roots left over have none
abbrev pub root_answers : Entries → TargetGraph → List ℕ → List ℕ → List ℕ → List ℕ → List Answer
root_answers E T ws map eroots troots =
    let lead = bad_lead map eroots troots in
    let ps = read_pairs E.reads T.rows T.bits in
    let qs = call_pairs E.calls E.cargs ws in
    let from = length eroots + length ps in
    let r = bad_cong troots (read_root E.reads T.rows) (length eroots) ps in
    let c = bad_cong troots (call_root E.calls E.cargs T.rows) from qs in
    refuse (ltb lead (length eroots)) (RootMismatch lead)
    ∷ refuse (ltb r (length ps)) (CongruenceMismatch (length eroots + r))
    ∷ refuse (ltb c (length qs)) (CongruenceMismatch (from + c))
    ∷ refuse (not (eqb (length troots) (from + length qs))) (RootMismatch 0)
    ∷ []

-- "5 ReadTable (entry); 6 CallTable (entry)", over the target's widths and its classes, "first 0"
abbrev pub table_answers : Sorts → Entries → List ℕ → List ℕ → List ℕ → List Answer
table_answers σ E target ws cls =
    let r = bad_read σ E.reads target ws cls in
    let c = bad_call E.calls E.cargs target ws (read_classes E.reads cls (read_count E.reads)) in
    refuse (ltb r (read_count E.reads)) (ReadTable r) ∷ refuse (ltb c (call_count E.calls)) (CallTable c) ∷ []

-- "3 MapLength (expected, found); 5 ReadTable (entry); 6 CallTable (entry) .. Then by row 4 .. 11. Then 14 DeadEntry (first variable)", then the
-- roots
abbrev pub match_answers : Lowering → List Answer
match_answers L =
    refuse (not (eqb (length L.map) (source_rows L))) (MapLength (source_rows L) (length L.map))
    ∷ table_answers (array_sorts L) (entries_of L) L.target.rows (widths_of_target L) (no_classes L)
    ++ (rows_refusal L
    ∷ refuse (ltb (dead_variable L) (target_rows L)) (DeadEntry (dead_variable L))
    ∷ root_answers (entries_of L) L.target (widths_of_target L) L.map L.eroots L.troots)

-- the answer, with room for some words in each of the four lists; `strict` says which of the two checks is asked
abbrev pub check_answer_by : Bool → Lowering → ℕ → ℕ → ℕ → ℕ → Answer
check_answer_by strict L w0 w1 c e =
    first_refusal
    (count_answers L.source L.target w0 w1 c e
    ++ (form_answers strict L.edition L.source L.target L.eroots L.troots ++ match_answers L))

abbrev pub check_answer : Lowering → ℕ → ℕ → ℕ → ℕ → Answer
check_answer L w0 w1 c e = check_answer_by false L w0 w1 c e

-- "15 and 18 write nothing; any other refusal zeroes all four lists. Acceptance leaves widths, classes and entry offsets .., zeros after the last
-- row"
abbrev pub check_by : Bool → Lowering → List ℕ → List ℕ → List ℕ → List ℕ → Result
check_by strict L ws0 ws1 cls ent =
    let a = check_answer_by strict L (length ws0) (length ws1) (length cls) (length ent) in
    leaves a ((ws0, widths_of_source L) ∷ (ws1, widths_of_target L) ∷ (cls, classes L (source_rows L)) ∷ (ent, offsets L) ∷ [])

-- Check, and "a strict check beside the old" (02, 2.6)
abbrev pub check : Lowering → List ℕ → List ℕ → List ℕ → List ℕ → Result
check L ws0 ws1 cls ent = check_by false L ws0 ws1 cls ent

abbrev pub strict_check : Lowering → List ℕ → List ℕ → List ℕ → List ℕ → Result
strict_check L ws0 ws1 cls ent = check_by true L ws0 ws1 cls ent
