-- The number of classes stays, row by row. Assumes nothing.
use Prim.Native.Nat.{ℕ, zero, suc}
use mathlib.Core.Path.{◌≡◌, refl, ◌∙◌}
use mathlib.Core.Bool.{Bool, true, false, cond}
use mathlib.Core.List.{List}
use lib.Dec.{eqb}
use lib.ListN.{length, length-set}
use Rattle.lists.specs.Trace.{trace}
use Rattle.rows.specs.declared.Graph.TheVariants.{Source}
use Rattle.rows.specs.Row.{MAX, row_at}
use Rattle.rows.specs.Node.{node_of}
use Rattle.lowering.specs.declared.Walk.{Walk}
use Rattle.lowering.specs.declared.Walk.TheVariants.{RanOut, Met, Lost}
use Rattle.lowering.specs.Images.{map_at}
use Rattle.lowering.specs.Matching.{select_walk, Kind, var, const, core, select, call, unknown, kind_of, end_classes, kind_classes, node_classes}
use Rattle.lowering.specs.Matching.{row_classes}
use Rattle.lowering.specs.Lowering.{Lowering, Binding, binding_of}
use Rattle.lowering.specs.Check.{classes_of_tables, classes}

end-length : (cls : List ℕ) (o : Walk) → length (end_classes cls o) ≡ length cls
end-length cls (RanOut r) = length-set cls r 4
end-length cls (Met r v) = refl
end-length cls Lost = refl

module _ (B : Binding) where
  kind-length : (cls : List ℕ) (r : ℕ) (k : Kind) → length (kind_classes B cls r k) ≡ length cls
  kind-length cls r (var w) = length-set cls r 1
  kind-length cls r const = refl
  kind-length cls r (core node) = refl
  kind-length cls r (select a j s k) = end-length cls (select_walk B r j s k)
  kind-length cls r (call f w s k) = length-set cls r 5
  kind-length cls r unknown = refl

  row-length : (i : ℕ) (cls : List ℕ) → length (row_classes B i cls) ≡ length cls
  unfolding row_classes
  row-length i cls = go (eqb (map_at B.map i) MAX)
    where
      go : (b : Bool) → length (cond b cls (node_classes B cls (map_at B.map i) (node_of (row_at Source B.source.rows i)))) ≡ length cls
      go true = refl
      go false = kind-length cls (map_at B.map i) (kind_of (node_of (row_at Source B.source.rows i)))

pub classes-keep-length : (L : Lowering) (n : ℕ) → length (classes L n) ≡ length (classes_of_tables L)
unfolding trace
classes-keep-length L zero = refl
classes-keep-length L (suc n) = row-length (binding_of L) n (classes L n) ∙ classes-keep-length L n
