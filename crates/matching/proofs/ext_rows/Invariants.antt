-- Invariant: no row before i is refused, and the classes are those before row i; the loop is the search for the first refusal. Assumes nothing.
use Prim.Native.Nat.{ℕ, ◌<◌, ◌-◌}
use mathlib.Core.Path.{◌≡◌}
use mathlib.Core.Bool.{false}
use lib.ListN.{length}
use Rattle.lowering.specs.Asked.{lowering_of}
use Rattle.lowering.specs.Lowering.{binding_of}
use Rattle.lowering.specs.Matching.{noted}
use Rattle.matching.proofs.Loop.{before, refused}
use Rattle.matching.proofs.ext_rows.Given as goal

abbrev pub invariant-loop-i : goal.invariant-loop-i
invariant-loop-i l =
    let B = binding_of (lowering_of l.asked) in
    let first = noted l.initial.cls l.ent in
    (length l.cls ≡ length l.initial.cls) × (l.cls ≡ before B first l.i) × ((j : ℕ) → j < l.i → refused B first j ≡ false)
