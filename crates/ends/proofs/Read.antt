-- A read variable where a walk ends is a row. Assumes nothing.
use Prim.Native.Nat.{ℕ, ◌<◌}
use mathlib.Core.Path.{◌≡◌}
use mathlib.Core.Bool.{true}
use mathlib.Core.List.{List}
use borrow.Author.Tests.{ltb-true}
use Rattle.lists.proofs.Tests.{all_true}
use Rattle.rows.specs.declared.Graph.TheVariants.{Target}
use Rattle.rows.specs.Row.{row_count}
use Rattle.lowering.specs.declared.Walk.TheVariants.{RanOut}
use Rattle.lowering.specs.Matching.{Noted, end_good}

pub read-in : (map reads target : List ℕ) (N : Noted) (a j r : ℕ) → end_good map reads target N a j (RanOut r) ≡ true → r < row_count Target target
unfolding end_good
read-in map reads target N a j r e = ltb-true _ _ (all_true _ e).0
