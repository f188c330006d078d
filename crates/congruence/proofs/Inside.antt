-- What the functions on pairs of calls ask for follows from a table that has passed. Assumes nothing.
use Prim.Native.Nat.{ℕ, ◌<◌}
use mathlib.Core.Path.{◌≡◌}
use mathlib.Core.Bool.{true}
use mathlib.Core.List.{List}
use borrow.Author.Tests.{leb-true}
use Rattle.lists.proofs.Tests.{all_true}
use Rattle.lowering.specs.Tables.{call_count, call_good}
use Rattle.congruence.specs.Calls.{CallsIn}

-- every entry is good, by the classes before it
pub calls-in : (calls cargs target ws : List ℕ) (cls : ℕ → List ℕ)
    → ((k : ℕ) → k < call_count calls → call_good calls cargs target ws (cls k) k ≡ true) → CallsIn calls cargs
unfolding call_good
calls-in calls cargs target ws cls good k h =
    let (a, (b, (c, (d, (e, _))))) = all_true _ (good k h) in
    (leb-true _ _ a, leb-true _ _ e)
