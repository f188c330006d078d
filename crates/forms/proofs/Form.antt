-- The answer to the encoding and the form of both graphs, refusal by refusal. Assumes nothing.
use Prim.Native.Nat.{ℕ, ◌<◌, ◌≤◌}
use mathlib.Core.Path.{◌≡◌, refl, sym, ◌∙◌}
use mathlib.Core.Bool.{Bool, true, false}
use mathlib.Core.List.{List, [], ◌++◌}
use native.Mathlib.Omega.{arith}
use native.Mathlib.Decide.{dec_lt}
use borrow.Author.Tests.{lt-ltb, le-ltb, ltb-true, ltb-false}
use lib.Dec.{ltb}
use lib.ListN.{length, take, drop}
use lib.Seq.{take_at}
use Rattle.sorts.specs.Sorts.{Sorts, Edition, plain, sorts_of, sort_answer}
use Rattle.answers.specs.Answer.{Answer}
use Rattle.answers.specs.Answer.{Accepted, BadRow, BadBit, Ext, Core}
use Rattle.answers.specs.Answer.{is_accepted, and_then}
use Rattle.lists.proofs.Build.{build-length}
use Rattle.lists.proofs.First.{first-le, first-all}
use Rattle.rows.specs.declared.Graph.{Graph}
use Rattle.rows.specs.declared.Graph.TheVariants.{Source, Target}
use Rattle.rows.specs.Row.{row_count}
use Rattle.encoding.specs.Encoding.{row_bad, bad_row, bad_bit}
use Rattle.wf.specs.Widths.{ill_row, row_width, widths_to, widths}
use Rattle.wf.specs.Pass.{row_stops, stop_row}
use Rattle.wf.proofs.Stop.{stop-none, stop-ill}
use Rattle.lowering.proofs.Inversion.{each, not-refused}
use Rattle.lowering.proofs.Refusals.{refusal-append}
use Rattle.lowering.specs.Lowering.{SourceGraph, TargetGraph}
use Rattle.lowering.specs.Check.{source_row_widths, target_row_widths, first_refusal, graph_answers, forms_of, graphs_answer, bit_answers}
use Rattle.lowering.specs.Check.{form_answers}

pub bad-row-le : (graph : Graph) (g : List ℕ) → bad_row graph g ≤ row_count graph g
bad-row-le graph g = first-le (row_bad graph g) (row_count graph g)

module _ (sort : Answer) (S : SourceGraph) (T : TargetGraph) (x y : ℕ) where
  abbrev answer : Answer
  answer = first_refusal (graph_answers sort S T x y)

  pub bad-source : bad_row Source S.rows < row_count Source S.rows → answer ≡ BadRow (bad_row Source S.rows) 1
  unfolding first_refusal
  bad-source h = rw (lt-ltb _ _ h)

  module _ (a : row_count Source S.rows ≤ bad_row Source S.rows) where
    pub bad-target : bad_row Target T.rows < row_count Target T.rows → answer ≡ BadRow (bad_row Target T.rows) 2
    unfolding first_refusal
    bad-target h = rw (le-ltb _ _ a, lt-ltb _ _ h)

    module _ (b : row_count Target T.rows ≤ bad_row Target T.rows) where
      pub bit-source : bad_bit S.bits < length S.bits → answer ≡ BadBit (bad_bit S.bits) 1
      unfolding first_refusal
      bit-source h = rw (le-ltb _ _ a, le-ltb _ _ b, lt-ltb _ _ h)

      module _ (c : length S.bits ≤ bad_bit S.bits) where
        pub bit-target : bad_bit T.bits < length T.bits → answer ≡ BadBit (bad_bit T.bits) 2
        unfolding first_refusal
        bit-target h = rw (le-ltb _ _ a, le-ltb _ _ b, le-ltb _ _ c, lt-ltb _ _ h)

        module _ (d : length T.bits ≤ bad_bit T.bits) where
          pub unsorted : is_accepted sort ≡ false → answer ≡ sort
          unfolding first_refusal
          unsorted h = rw (le-ltb _ _ a, le-ltb _ _ b, le-ltb _ _ c, le-ltb _ _ d, h)

          module _ (sorted : is_accepted sort ≡ true) where
            pub ill-source : x < row_count Source S.rows → answer ≡ Ext x
            unfolding first_refusal
            ill-source h = rw (le-ltb _ _ a, le-ltb _ _ b, le-ltb _ _ c, le-ltb _ _ d, sorted, lt-ltb _ _ h)

            module _ (e : row_count Source S.rows ≤ x) where
              pub ill-target : y < row_count Target T.rows → answer ≡ Core y
              unfolding first_refusal
              ill-target h = rw (le-ltb _ _ a, le-ltb _ _ b, le-ltb _ _ c, le-ltb _ _ d, sorted, le-ltb _ _ e, lt-ltb _ _ h)

              pub graphs-good : row_count Target T.rows ≤ y → answer ≡ Accepted
              unfolding first_refusal
              graphs-good f = rw (le-ltb _ _ a, le-ltb _ _ b, le-ltb _ _ c, le-ltb _ _ d, sorted, le-ltb _ _ e, le-ltb _ _ f)

-- a row that stops a pass is the ill-formed one, unless some row is badly encoded
module _ (σ : Sorts) (graph : Graph) (nbits : ℕ) (side g : List ℕ) where
  stop-is-ill : row_count graph g ≤ bad_row graph g → stop_row σ graph nbits side g ≡ ill_row σ graph nbits side g
  stop-is-ill h = go (dec_lt (stop_row σ graph nbits side g) (row_count graph g))
    where
      go : Dec (stop_row σ graph nbits side g < row_count graph g) → stop_row σ graph nbits side g ≡ ill_row σ graph nbits side g
      go (yes l) = sym (stop-ill σ graph nbits side g l h)
      go (no l) =
          let past : row_count graph g ≤ stop_row σ graph nbits side g = omega arith in
          first-all (row_stops σ graph nbits side g) (row_count graph g) past ∙ sym (stop-none σ graph nbits side g past).1

  pub stop_le : stop_row σ graph nbits side g ≤ row_count graph g
  stop_le = first-le (row_stops σ graph nbits side g) (row_count graph g)

-- the stop rows give the same answer as the ill-formed rows
pub graphs-stop : (E : Edition) (S : SourceGraph) (T : TargetGraph)
    → first_refusal (graph_answers (sort_answer E) S T (stop_row (sorts_of E) Source (length S.bits) S.side S.rows)
    (stop_row plain Target (length T.bits) [] T.rows)) ≡ graphs_answer E S T
graphs-stop E S T = go _ refl _ refl
  where
    x : ℕ
    x = stop_row (sorts_of E) Source (length S.bits) S.side S.rows

    y : ℕ
    y = stop_row plain Target (length T.bits) [] T.rows

    go : (b : Bool) → ltb (bad_row Source S.rows) (row_count Source S.rows) ≡ b → (c : Bool)
        → ltb (bad_row Target T.rows) (row_count Target T.rows) ≡ c
        → first_refusal (graph_answers (sort_answer E) S T x y) ≡ graphs_answer E S T
    go true e c f = bad-source (sort_answer E) S T x y (ltb-true _ _ e) ∙ sym (bad-source (sort_answer E) S T _ _ (ltb-true _ _ e))
    go false e true f =
        bad-target (sort_answer E) S T x y (ltb-false _ _ e) (ltb-true _ _ f)
        ∙ sym (bad-target (sort_answer E) S T _ _ (ltb-false _ _ e) (ltb-true _ _ f))
    go false e false f =
        rw (
          stop-is-ill (sorts_of E) Source (length S.bits) S.side S.rows (ltb-false _ _ e),
          stop-is-ill plain Target (length T.bits) [] T.rows (ltb-false _ _ f),
        )

-- a row that stops the pass along the source settles the answer, wherever the target's pass stops
pub source-settles : (sort : Answer) (S : SourceGraph) (T : TargetGraph) (x y z : ℕ) → x < row_count Source S.rows
    → first_refusal (graph_answers sort S T x y) ≡ first_refusal (graph_answers sort S T x z)
unfolding first_refusal
source-settles sort S T x y z h = rw (lt-ltb _ _ h)

-- and a sort table that is refused settles it, wherever the two would stop
pub sort-settles : (sort : Answer) (S : SourceGraph) (T : TargetGraph) (x y v w : ℕ) → is_accepted sort ≡ false
    → first_refusal (graph_answers sort S T x y) ≡ first_refusal (graph_answers sort S T v w)
unfolding first_refusal
sort-settles sort S T x y v w n = rw n

-- acceptance: no row stops a pass, and the table is good
module _ (sort : Answer) (S : SourceGraph) (T : TargetGraph) (x y : ℕ) (accepts : is_accepted (first_refusal (graph_answers sort S T x y)) ≡ true)
  where
    pub table-good : is_accepted sort ≡ true
    table-good = let (_, (_, (_, (_, (good, _))))) = each _ accepts in good

    pub no-stop-source : row_count Source S.rows ≤ x
    no-stop-source = let (_, (_, (_, (_, (_, (ill0, _)))))) = each _ accepts in ltb-false _ _ (not-refused _ (Ext x) refl ill0)

    pub no-stop-target : row_count Target T.rows ≤ y
    no-stop-target = let (_, (_, (_, (_, (_, (_, (ill1, _))))))) = each _ accepts in ltb-false _ _ (not-refused _ (Core y) refl ill1)

-- so the whole list of widths stands there
pub widths-all : (σ : Sorts) (graph : Graph) (nbits : ℕ) (side g ws : List ℕ) → row_count graph g ≤ stop_row σ graph nbits side g
    → widths_to σ graph nbits side g (stop_row σ graph nbits side g) ++ drop (stop_row σ graph nbits side g) ws ≡ widths σ graph nbits side g
    ++ drop (row_count graph g) ws
widths-all σ graph nbits side g ws h = rw (first-all (row_stops σ graph nbits side g) (row_count graph g) h)

-- a list of widths has one for each row, and stands in front
pub width-count : (σ : Sorts) (graph : Graph) (nbits : ℕ) (side g : List ℕ) → length (widths σ graph nbits side g) ≡ row_count graph g
width-count σ graph nbits side g = build-length (row_width σ graph nbits side g) (row_count graph g)

pub widths-front : (σ : Sorts) (graph : Graph) (nbits n : ℕ) (side g ws rest : List ℕ) → n ≡ row_count graph g
    → ws ≡ widths σ graph nbits side g ++ rest
    → take n ws ≡ widths σ graph nbits side g
widths-front σ graph nbits n side g ws rest e q =
    rw (e, q) (take_at (widths σ graph nbits side g) rest (row_count graph g) (width-count σ graph nbits side g))

-- the roots are asked where both graphs pass
module _ (strict : Bool) (E : Edition) (S : SourceGraph) (T : TargetGraph) (eroots troots : List ℕ) (g : Answer) (graphs : g ≡ graphs_answer E S T)
  where
    forms-are : first_refusal (form_answers strict E S T eroots troots)
        ≡ and_then g (first_refusal (bit_answers strict (source_row_widths (sorts_of E) S) eroots (target_row_widths T) troots))
    forms-are =
        refusal-append (forms_of E S T) (bit_answers strict (source_row_widths (sorts_of E) S) eroots (target_row_widths T) troots)
        ∙ rw (← graphs)

    pub graphs-refused : is_accepted g ≡ false → g ≡ first_refusal (form_answers strict E S T eroots troots)
    graphs-refused n = sym (forms-are ∙ rw n)

    pub roots-asked : is_accepted g ≡ true → (a : Answer) (ws0 ws1 : List ℕ) → a ≡ first_refusal (bit_answers strict ws0 eroots ws1 troots)
        → ws0 ≡ source_row_widths (sorts_of E) S → ws1 ≡ target_row_widths T → a ≡ first_refusal (form_answers strict E S T eroots troots)
    roots-asked n a ws0 ws1 e p q = e ∙ rw (p, q) (sym (forms-are ∙ rw n))
