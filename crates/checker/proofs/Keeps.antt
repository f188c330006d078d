-- Which refusals write nothing: 15 and 18, and no other. Assumes nothing.
use Prim.Native.Nat.{ℕ, ◌+◌}
use mathlib.Core.Path.{◌≡◌, refl}
use mathlib.Core.Bool.{Bool, true, false, cond, not}
use mathlib.Core.List.{List, [], ◌∷◌}
use lib.Dec.{eqb, ltb}
use lib.ListN.{length}
use Rattle.sorts.specs.Sorts.{Edition, sorts_of, sort_answer}
use Rattle.sorts.proofs.Sorts.{sort-zeroes}
use Rattle.answers.specs.Answer.{Answer}
use Rattle.answers.specs.Answer.{Accepted, RowCount, WorkShort, BadRow, BadBit, Ext, Core, MapLength, ReadTable, CallTable}
use Rattle.answers.specs.Answer.{DeadEntry, RootMismatch, CongruenceMismatch, BadRoot, MapOutOfRange, VarClass, ConstMismatch}
use Rattle.answers.specs.Answer.{NodeMismatch, ChainMismatch, CallMismatch}
use Rattle.answers.specs.Answer.{is_accepted, keeps}
use Rattle.lists.proofs.Choice.{no_way}
use Rattle.rows.specs.declared.Graph.TheVariants.{Source, Target}
use Rattle.rows.specs.Row.{MAX, row_count, row_at, ragged}
use Rattle.rows.specs.Node.{node_of}
use Rattle.encoding.specs.Encoding.{bad_row, bad_bit}
use Rattle.wf.specs.Widths.{bad_root}
use Rattle.lowering.specs.Images.{map_at, same_const}
use Rattle.lowering.specs.Tables.{read_count, call_count, bad_read, bad_call}
use Rattle.lowering.specs.Roots.{Pair, bad_lead, bad_cong, read_pairs, call_pairs, read_root, call_root}
use Rattle.lowering.specs.Matching.{Noted, noted, mapped_arg, select_walk, end_good, call_matches, var_matches, node_matches, matched}
use Rattle.lowering.specs.Matching.{Kind, var, const, core, select, call, unknown, kind_of, kind_answer, node_answer, row_answer}
use Rattle.lowering.specs.Lowering.{array_sorts, SourceGraph, TargetGraph, Lowering, Binding, binding_of, entries_of, source_rows, target_rows}
use Rattle.lowering.specs.Check.{widths_of_target, no_classes, classes_of_reads, dead_variable, answer_of, mismatch, offsets, classes, refuse}
use Rattle.lowering.specs.Check.{first_refusal}
use Rattle.lowering.specs.Check.{count_answers, graph_answers, forms_of, root_answers, match_answers}
use Rattle.lowering.specs.Check.{source_ill, target_ill, source_row_widths, target_row_widths, bit_answers, form_answers}
use Rattle.lowering.proofs.Refusals.{refusal-append}

-- a test's refusal, where it is none of the two
keeps-refuse : (b : Bool) (a : Answer) → keeps a ≡ false → keeps (refuse b a) ≡ false
keeps-refuse true a e = e
keeps-refuse false a e = refl

keeps-matched : (b : Bool) (a : Answer) → keeps a ≡ false → keeps (matched b a) ≡ false
keeps-matched true a e = refl
keeps-matched false a e = e

-- none of the answers of a list is one of the two
abbrev Zero : List Answer → Type 0
Zero [] = Unit {0}
Zero (a ∷ more) = (keeps a ≡ false) × Zero more

keeps-first : (l : List Answer) → Zero l → keeps (first_refusal l) ≡ false
unfolding first_refusal
keeps-first [] z = refl
keeps-first (a ∷ more) z = go (is_accepted a) (keeps-first more z.1)
  where
    go : (b : Bool) → keeps (first_refusal more) ≡ false → keeps (cond b (first_refusal more) a) ≡ false
    go true r = r
    go false r = z.0

-- the counts' refusals are
pub keeps-count : (S : SourceGraph) (T : TargetGraph) (w0 w1 c e : ℕ) → is_accepted (first_refusal (count_answers S T w0 w1 c e)) ≡ false
    → keeps (first_refusal (count_answers S T w0 w1 c e)) ≡ true
unfolding first_refusal
keeps-count S T w0 w1 c e n =
    go (ragged Source S.rows) (ragged Target T.rows) (ltb w0 (row_count Source S.rows)) (ltb w1 (row_count Target T.rows))
    (ltb c (row_count Target T.rows)) (ltb e (row_count Target T.rows)) n
  where
    list : Bool → Bool → Bool → Bool → Bool → Bool → List Answer
    list b0 b1 b2 b3 b4 b5 =
        refuse b0 (RowCount 1) ∷ refuse b1 (RowCount 2) ∷ refuse b2 (WorkShort 1) ∷ refuse b3 (WorkShort 2) ∷ refuse b4 (WorkShort 3)
        ∷ refuse b5 (WorkShort 4) ∷ []

    go : (b0 b1 b2 b3 b4 b5 : Bool) → is_accepted (first_refusal (list b0 b1 b2 b3 b4 b5)) ≡ false
        → keeps (first_refusal (list b0 b1 b2 b3 b4 b5)) ≡ true
    go true b1 b2 b3 b4 b5 n = refl
    go false true b2 b3 b4 b5 n = refl
    go false false true b3 b4 b5 n = refl
    go false false false true b4 b5 n = refl
    go false false false false true b5 n = refl
    go false false false false false true n = refl
    go false false false false false false n = no_way n

-- the others are not
keeps-graphs : (E : Edition) (S : SourceGraph) (T : TargetGraph) (x y : ℕ) → keeps (first_refusal (graph_answers (sort_answer E) S T x y)) ≡ false
keeps-graphs E S T x y = keeps-first (graph_answers (sort_answer E) S T x y) (row0, (row1, (bit0, (bit1, (sort-zeroes E, (ill0, (ill1, tt)))))))
  where
    row0 : keeps (refuse (ltb (bad_row Source S.rows) (row_count Source S.rows)) (BadRow (bad_row Source S.rows) 1)) ≡ false
    row0 = keeps-refuse (ltb (bad_row Source S.rows) (row_count Source S.rows)) (BadRow (bad_row Source S.rows) 1) refl

    row1 : keeps (refuse (ltb (bad_row Target T.rows) (row_count Target T.rows)) (BadRow (bad_row Target T.rows) 2)) ≡ false
    row1 = keeps-refuse (ltb (bad_row Target T.rows) (row_count Target T.rows)) (BadRow (bad_row Target T.rows) 2) refl

    bit0 : keeps (refuse (ltb (bad_bit S.bits) (length S.bits)) (BadBit (bad_bit S.bits) 1)) ≡ false
    bit0 = keeps-refuse (ltb (bad_bit S.bits) (length S.bits)) (BadBit (bad_bit S.bits) 1) refl

    bit1 : keeps (refuse (ltb (bad_bit T.bits) (length T.bits)) (BadBit (bad_bit T.bits) 2)) ≡ false
    bit1 = keeps-refuse (ltb (bad_bit T.bits) (length T.bits)) (BadBit (bad_bit T.bits) 2) refl

    ill0 : keeps (refuse (ltb x (row_count Source S.rows)) (Ext x)) ≡ false
    ill0 = keeps-refuse (ltb x (row_count Source S.rows)) (Ext x) refl

    ill1 : keeps (refuse (ltb y (row_count Target T.rows)) (Core y)) ≡ false
    ill1 = keeps-refuse (ltb y (row_count Target T.rows)) (Core y) refl

keeps-bits : (strict : Bool) (ws0 eroots ws1 troots : List ℕ) → keeps (first_refusal (bit_answers strict ws0 eroots ws1 troots)) ≡ false
keeps-bits true ws0 eroots ws1 troots = keeps-first (bit_answers true ws0 eroots ws1 troots) (source, (target, tt))
  where
    source : keeps (refuse (ltb (bad_root ws0 eroots) (length eroots)) (BadRoot (bad_root ws0 eroots) 1)) ≡ false
    source = keeps-refuse (ltb (bad_root ws0 eroots) (length eroots)) (BadRoot (bad_root ws0 eroots) 1) refl

    target : keeps (refuse (ltb (bad_root ws1 troots) (length troots)) (BadRoot (bad_root ws1 troots) 2)) ≡ false
    target = keeps-refuse (ltb (bad_root ws1 troots) (length troots)) (BadRoot (bad_root ws1 troots) 2) refl
keeps-bits false ws0 eroots ws1 troots = keeps-first [] tt

pub keeps-forms : (strict : Bool) (E : Edition) (S : SourceGraph) (T : TargetGraph) (eroots troots : List ℕ)
    → keeps (first_refusal (form_answers strict E S T eroots troots)) ≡ false
keeps-forms strict E S T eroots troots = go (is_accepted graphs) refl
  where
    graphs : Answer
    graphs = first_refusal (forms_of E S T)

    go : (b : Bool) → is_accepted graphs ≡ b → keeps (first_refusal (form_answers strict E S T eroots troots)) ≡ false
    go true e =
        rw (refusal-append (forms_of E S T) (bit_answers strict (source_row_widths (sorts_of E) S) eroots (target_row_widths T) troots), e)
        (keeps-bits strict (source_row_widths (sorts_of E) S) eroots (target_row_widths T) troots)
    go false e =
        rw (refusal-append (forms_of E S T) (bit_answers strict (source_row_widths (sorts_of E) S) eroots (target_row_widths T) troots), e)
        (keeps-graphs E S T (source_ill (sorts_of E) S) (target_ill T))

keeps-kind : (B : Binding) (N : Noted) (i r : ℕ) (k : Kind) → keeps (kind_answer B N i r k) ≡ false
keeps-kind B N i r (var w) = keeps-matched (var_matches B.target.rows N.classes w r) (VarClass i) refl
keeps-kind B N i r const =
    keeps-matched (same_const B.source.bits (row_at Source B.source.rows i) B.target.bits (row_at Target B.target.rows r))
    (ConstMismatch i) refl
keeps-kind B N i r (core node) = keeps-matched (node_matches B.map B.target.rows node r) (NodeMismatch i) refl
keeps-kind B N i r (select a j s k) =
    keeps-matched (end_good B.map B.reads B.target.rows N a j (select_walk B r j s k)) (ChainMismatch i) refl
keeps-kind B N i r (call f w s k) =
    keeps-matched (call_matches B.calls B.cargs B.target.rows N f w k (mapped_arg B.map B.source.side s) r) (CallMismatch i) refl
keeps-kind B N i r unknown = refl

keeps-row : (L : Lowering) (i : ℕ) → keeps (answer_of L i) ≡ false
unfolding row_answer
keeps-row L i = go (eqb (map_at L.map i) MAX) (ltb (map_at L.map i) (row_count Target L.target.rows))
  where
    node : Answer
    node = node_answer (binding_of L) (noted (classes L i) (offsets L)) i (map_at L.map i) (node_of (row_at Source L.source.rows i))

    go : (b c : Bool) → keeps (cond b Accepted (cond c node (MapOutOfRange i))) ≡ false
    go true c = refl
    go false true =
        keeps-kind (binding_of L) (noted (classes L i) (offsets L)) i (map_at L.map i) (kind_of (node_of (row_at Source L.source.rows i)))
    go false false = refl

module _ (L : Lowering) where
  abbrev r : ℕ
  r = bad_read (array_sorts L) L.reads L.target.rows (widths_of_target L) (no_classes L)

  abbrev c : ℕ
  c = bad_call L.calls L.cargs L.target.rows (widths_of_target L) (classes_of_reads L)

  keeps-roots : Zero (root_answers (entries_of L) L.target (widths_of_target L) L.map L.eroots L.troots)
  keeps-roots = (
    keeps-refuse (ltb lead (length L.eroots)) (RootMismatch lead) refl,
    (
      keeps-refuse (ltb x (length ps)) (CongruenceMismatch (length L.eroots + x)) refl,
      (
        keeps-refuse (ltb y (length qs)) (CongruenceMismatch (length L.eroots + length ps + y)) refl,
        (keeps-refuse (not (eqb (length L.troots) (length L.eroots + length ps + length qs))) (RootMismatch 0) refl, tt),
      ),
    ),
  )
    where
      lead : ℕ
      lead = bad_lead L.map L.eroots L.troots

      ps : List Pair
      ps = read_pairs L.reads L.target.rows L.target.bits

      qs : List Pair
      qs = call_pairs L.calls L.cargs (widths_of_target L)

      x : ℕ
      x = bad_cong L.troots (read_root L.reads L.target.rows) (length L.eroots) ps

      y : ℕ
      y = bad_cong L.troots (call_root L.calls L.cargs L.target.rows) (length L.eroots + length ps) qs

  pub keeps-match : keeps (first_refusal (match_answers L)) ≡ false
  keeps-match =
      keeps-first (match_answers L) (
        keeps-refuse (not (eqb (length L.map) (source_rows L))) (MapLength (source_rows L) (length L.map)) refl,
        (
          keeps-refuse (ltb r (read_count L.reads)) (ReadTable r) refl,
          (
            keeps-refuse (ltb c (call_count L.calls)) (CallTable c) refl,
            (
              keeps-refuse (ltb (mismatch L) (source_rows L)) (answer_of L (mismatch L)) (keeps-row L (mismatch L)),
              (keeps-refuse (ltb (dead_variable L) (target_rows L)) (DeadEntry (dead_variable L)) refl, keeps-roots),
            ),
          ),
        ),
      )
