-- What a row's tag says of its node. Assumes nothing.
use Prim.Native.Nat.{ℕ, ◌<◌, ◌≤◌}
use mathlib.Core.Path.{◌≡◌, subst}
use mathlib.Core.List.{List}
use native.Mathlib.Omega.{arith}
use borrow.Author.Tests.{ltb-true, not-false}
use lib.ListN.{get_or}
use Rattle.lists.proofs.Choice.{both}
use Rattle.lists.proofs.First.{first-before}
use Rattle.rows.specs.declared.Graph.TheVariants.{Target}
use Rattle.rows.specs.declared.Node.{Node}
use Rattle.rows.specs.declared.Node.TheVariants.{Var}
use Rattle.rows.specs.Row.{row_count, row_at}
use Rattle.encoding.specs.Encoding.{row_good, row_bad, bad_row}
use Rattle.rows.specs.Tags.{t_var}
use Rattle.rows.specs.Node.{node_of}
use Rattle.rows.proofs.View.{View, Shape, is-var, is-const, is-extract, is-extend, is-ite, is-un, is-select, is_call, is-bin, is-unknown, view_of}
use Rattle.rows.proofs.View.{var-viewed}
use Rattle.value.specs.Operate.{tag_of}

viewed-core : (t a b c d : ℕ) (node : Node) → t < 37 → View t a b c d node → tag_of node < 37
viewed-core t a b c d node h (is-var e) = omega arith
viewed-core t a b c d node h (is-const e) = omega arith
viewed-core t a b c d node h (is-extract e) = omega arith
viewed-core t a b c d node h (is-extend e) = h
viewed-core t a b c d node h (is-ite e) = omega arith
viewed-core t a b c d node h (is-un e) = h
viewed-core t a b c d node h (is-select e) = absurd (omega arith)
viewed-core t a b c d node h (is_call e) = absurd (omega arith)
viewed-core t a b c d node h (is-bin g) = h
viewed-core t a b c d node h (is-unknown l) = absurd (omega arith)

-- a core tag gives a core node
pub node-core : (r : List ℕ) → get_or r 0 0 < 37 → tag_of (node_of r) < 37
node-core r h = viewed-core _ _ _ _ _ (node_of r) h (view_of r)

-- the rows of a target without a bad row are core rows
pub core-rows : (g : List ℕ) → row_count Target g ≤ bad_row Target g → (r : ℕ) → r < row_count Target g → tag_of (node_of (row_at Target g r)) < 37
core-rows g h r l =
    let good = not-false (row_good Target (row_at Target g r)) (first-before (row_bad Target g) (row_count Target g) r (omega arith)) in
    node-core (row_at Target g r) (ltb-true (get_or (row_at Target g r) 0 0) 37 (both _ _ good).0)

-- a variable's row has tag 0 and its width in the first field
pub node-var : (r : List ℕ) (w : ℕ) → node_of r ≡ Var w → (get_or r 0 0 ≡ t_var) × (get_or r 1 0 ≡ w)
node-var r w h = var-viewed _ _ _ _ _ w (subst (Shape r) h (view_of r))
