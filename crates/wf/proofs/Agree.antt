-- A row's width asks for the sort of the array that it reads, and for no other: sorts that agree there give it one width. Assumes nothing.
use Prim.Native.Nat.{ℕ}
use mathlib.Core.Path.{◌≡◌, refl}
use mathlib.Core.List.{List}
use lib.ListN.{get_or}
use Rattle.sorts.specs.Sorts.{Sorts}
use Rattle.rows.specs.declared.Node.{Node}
use Rattle.rows.specs.Tags.{t_select}
use Rattle.rows.specs.Node.{node_of}
use Rattle.rows.proofs.View.{View, is-var, is-const, is-extract, is-extend, is-ite, is-un, is-select, is_call, is-bin, is-unknown, view}
use Rattle.rules.specs.Rule.{node_width}

module _ (σ τ : Sorts) (nbits : ℕ) (side ws : List ℕ) (t a b c d : ℕ)
    (agree : t ≡ t_select → (σ.index a ≡ τ.index a) × (σ.cell a ≡ τ.cell a)) where
  by-view : (node : Node) → View t a b c d node → node_width σ nbits side ws node ≡ node_width τ nbits side ws node
  by-view _ (is-var e) = refl
  by-view _ (is-const e) = refl
  by-view _ (is-extract e) = refl
  by-view _ (is-extend e) = refl
  by-view _ (is-ite e) = refl
  by-view _ (is-un e) = refl
  by-view _ (is-select e) = let (i, k) = agree e in rw (i, k)
  by-view _ (is_call e) = refl
  by-view _ (is-bin g) = refl
  by-view _ (is-unknown e) = refl

pub width_same : (σ τ : Sorts) (nbits : ℕ) (side ws r : List ℕ)
    → (get_or r 0 0 ≡ t_select → (σ.index (get_or r 1 0) ≡ τ.index (get_or r 1 0)) × (σ.cell (get_or r 1 0) ≡ τ.cell (get_or r 1 0)))
    → node_width σ nbits side ws (node_of r) ≡ node_width τ nbits side ws (node_of r)
width_same σ τ nbits side ws r agree =
    by-view σ τ nbits side ws _ _ _ _ _ agree _ (view (get_or r 0 0) (get_or r 1 0) (get_or r 2 0) (get_or r 3 0) (get_or r 4 0))
