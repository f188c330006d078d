-- What Check is asked, and the rows of its two graphs (01, 'Rows'). Assumes nothing.
use Rattle.std.specs.Prelude.{ℕ, List}
use Rattle.sorts.specs.Sorts.{Sorts, Edition, first_edition, sorts_of}
use Rattle.rows.specs.declared.Graph.TheVariants.{Source, Target}
use Rattle.rows.specs.Row.{row_count}

-- a source: its rows, the bits of its constants, its side list
pub record SourceGraph : Type 0 where
  pub rows : List ℕ
  pub bits : List ℕ
  pub side : List ℕ

abbrev pub source_graph : List ℕ → List ℕ → List ℕ → SourceGraph
source_graph rows bits side = record { rows = rows; bits = bits; side = side }

-- a target: its rows and the bits of its constants
pub record TargetGraph : Type 0 where
  pub rows : List ℕ
  pub bits : List ℕ

abbrev pub target_graph : List ℕ → List ℕ → TargetGraph
target_graph rows bits = record { rows = rows; bits = bits }

-- what Check is asked: the edition, which gives arrays their sorts; a source, a target, the map and the two tables that bind them, the roots of both
pub record Lowering : Type 0 where
  pub edition : Edition
  pub source : SourceGraph
  pub target : TargetGraph
  pub map : List ℕ
  pub reads : List ℕ
  pub calls : List ℕ
  pub cargs : List ℕ
  pub eroots : List ℕ
  pub troots : List ℕ

-- an edition and the eleven lists of `check_sliver_lowering`, in its order (its `e` and `t` are the source and the target)
abbrev pub lowering_in : Edition → List ℕ → List ℕ → List ℕ → List ℕ → List ℕ → List ℕ → List ℕ → List ℕ → List ℕ → List ℕ → List ℕ → Lowering
lowering_in E source ebits eside eroots map reads calls cargs target tbits troots =
    record {
      edition = E;
      source = source_graph source ebits eside;
      target = target_graph target tbits;
      map = map;
      reads = reads;
      calls = calls;
      cargs = cargs;
      eroots = eroots;
      troots = troots;
    }

-- "the first edition" (02, 2.9)
abbrev pub lowering : List ℕ → List ℕ → List ℕ → List ℕ → List ℕ → List ℕ → List ℕ → List ℕ → List ℕ → List ℕ → List ℕ → Lowering
lowering source ebits eside eroots map reads calls cargs target tbits troots =
    lowering_in first_edition source ebits eside eroots map reads calls cargs target tbits troots

-- the entries of the two tables: reads, calls and the calls' arguments
pub record Entries : Type 0 where
  pub reads : List ℕ
  pub calls : List ℕ
  pub cargs : List ℕ

abbrev pub entries : List ℕ → List ℕ → List ℕ → Entries
entries reads calls cargs = record { reads = reads; calls = calls; cargs = cargs }

-- what a row's match is asked of: a lowering without its roots
pub record Binding : Type 0 where
  pub source : SourceGraph
  pub target : TargetGraph
  pub map : List ℕ
  pub reads : List ℕ
  pub calls : List ℕ
  pub cargs : List ℕ

abbrev pub binding : List ℕ → List ℕ → List ℕ → List ℕ → List ℕ → List ℕ → List ℕ → List ℕ → List ℕ → Binding
binding source ebits eside map reads calls cargs target tbits =
    record { source = source_graph source ebits eside; target = target_graph target tbits; map = map; reads = reads; calls = calls; cargs = cargs }

module _ (L : Lowering) where
  -- the sorts of its arrays
  abbrev pub array_sorts : Sorts
  array_sorts = sorts_of L.edition

  abbrev pub source_rows : ℕ
  source_rows = row_count Source L.source.rows

  abbrev pub target_rows : ℕ
  target_rows = row_count Target L.target.rows

  abbrev pub binding_of : Binding
  binding_of = record { source = L.source; target = L.target; map = L.map; reads = L.reads; calls = L.calls; cargs = L.cargs }

  abbrev pub entries_of : Entries
  entries_of = entries L.reads L.calls L.cargs
