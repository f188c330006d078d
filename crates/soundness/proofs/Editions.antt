-- A second edition whose table lists 32 and 8 for each array that the source's Selects and the read entries name is answered as the first edition:
-- the answer and the lists, by either check (02, 2.9). Assumes nothing.
use Prim.Native.Nat.{ℕ, zero, suc, ◌<◌, ◌≤◌}
use mathlib.Core.Path.{◌≡◌, refl, ap, ◌∙◌}
use mathlib.Core.Bool.{Bool}
use mathlib.Core.List.{List}
use native.Mathlib.Omega.{arith}
use lib.Dec.{eqb}
use lib.ListN.{length, get_or}
use Rattle.lists.specs.Build.{build}
use Rattle.lists.proofs.First.{first-same}
use Rattle.sorts.specs.Sorts.{Sorts, second_edition, plain, sorts_of}
use Rattle.sorts.specs.Good.{Good}
use Rattle.sorts.proofs.Sorts.{sort-accepted}
use Rattle.rows.specs.declared.Graph.TheVariants.{Source}
use Rattle.rows.specs.declared.Node.{Node}
use Rattle.rows.specs.declared.Node.TheVariants.{Select}
use Rattle.rows.specs.Row.{row_count, row_at}
use Rattle.rows.specs.Node.{node_from, node_of}
use Rattle.wf.specs.Widths.{row_width, widths_to, ill_row, widths}
use Rattle.wf.proofs.Agree.{width_same}
use Rattle.lowering.specs.Tables.{read_count, read_array, read_good, bad_read}
use Rattle.lowering.specs.Lowering.{Lowering, lowering, lowering_in}
use Rattle.lowering.specs.Check.{check_by, no_classes, widths_of_target}

-- 32 and 8
abbrev pub Plain : Sorts → ℕ → Type 0
Plain σ a = (σ.index a ≡ 32) × (σ.cell a ≡ 8)

-- a list built by two functions that agree
build-same : (f g : ℕ → List ℕ → ℕ) (n : ℕ) → ((i : ℕ) → i < n → (ws : List ℕ) → f i ws ≡ g i ws) → build f n ≡ build g n
unfolding build
build-same f g zero e = refl
build-same f g (suc n) e = rw (build-same f g n (λ i h. e i (omega arith)), e n (omega arith) (build g n))

module _ (σ : Sorts) where
  -- a node of an array with these widths
  PlainNode : Node → Type 0
  PlainNode node = (a j s k : ℕ) → node ≡ Select a j s k → Plain σ a

  module _ (nbits : ℕ) (side g : List ℕ) (named : (i : ℕ) → i < row_count Source g → PlainNode (node_of (row_at Source g i))) where
    row_same : (i : ℕ) → i < row_count Source g → (ws : List ℕ) → row_width σ Source nbits side g i ws ≡ row_width plain Source nbits side g i ws
    unfolding PlainNode
    row_same i h ws =
        let r = row_at Source g i in
        width_same σ plain nbits side ws r
        (λ e. named i h _ _ _ _ (ap (λ (t : ℕ). node_from t (get_or r 1 0) (get_or r 2 0) (get_or r 3 0) (get_or r 4 0)) e))

    to_same : (n : ℕ) → n ≤ row_count Source g → widths_to σ Source nbits side g n ≡ widths_to plain Source nbits side g n
    to_same n h = build-same (row_width σ Source nbits side g) (row_width plain Source nbits side g) n (λ i l. row_same i (omega arith))

    widths-same : widths σ Source nbits side g ≡ widths plain Source nbits side g
    widths-same = to_same (row_count Source g) (omega arith)

    ill-same : ill_row σ Source nbits side g ≡ ill_row plain Source nbits side g
    ill-same =
        first-same _ _ (row_count Source g)
        (λ i h. ap (λ (w : ℕ). eqb w 0) (row_same i h (widths_to σ Source nbits side g i)
        ∙ ap (row_width plain Source nbits side g i) (to_same i (omega arith))))

  bad-same : (reads target ws cls : List ℕ) → ((q : ℕ) → q < read_count reads → Plain σ (read_array reads q))
      → bad_read σ reads target ws cls ≡ bad_read plain reads target ws cls
  unfolding read_good
  bad-same reads target ws cls named = first-same _ _ (read_count reads) (λ q h. let (i, c) = named q h in rw (i, c))

-- the two lowerings, by either check
module _ (table source ebits eside eroots map reads calls cargs target tbits troots : List ℕ) where
  abbrev pub second : Lowering
  second = lowering_in (second_edition table) source ebits eside eroots map reads calls cargs target tbits troots

  abbrev pub given : Lowering
  given = lowering source ebits eside eroots map reads calls cargs target tbits troots

  pub as_first : Good (second_edition table)
      → ((i a j s k : ℕ) → i < row_count Source source → node_of (row_at Source source i) ≡ Select a j s k
      → Plain (sorts_of (second_edition table)) a)
      → ((q : ℕ) → q < read_count reads → Plain (sorts_of (second_edition table)) (read_array reads q))
      → (strict : Bool) (ws0 ws1 cls ent : List ℕ) → check_by strict second ws0 ws1 cls ent ≡ check_by strict given ws0 ws1 cls ent
  unfolding PlainNode
  as_first good selects entries strict ws0 ws1 cls ent =
      let σ = sorts_of (second_edition table) in
      let named : (i : ℕ) → i < row_count Source source → (a j s k : ℕ) → node_of (row_at Source source i) ≡ Select a j s k → Plain σ a =
      λ i h a j s k e. selects i a j s k h e in
      rw (
        sort-accepted (second_edition table) good,
        ill-same σ (length ebits) eside source named,
        widths-same σ (length ebits) eside source named,
        bad-same σ reads target (widths_of_target given) (no_classes given) entries,
      )
