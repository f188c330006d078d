-- Invariant: entries before low are below the array, those from high on are not. Assumes nothing.
use Prim.Native.Nat.{ℕ, ◌-◌, ◌<◌, ◌≤◌}
use Rattle.sorts.specs.Sorts.{array_at}
use Rattle.sorts.proofs.lower_bound.Given as goal

abbrev pub invariant-loop-low : goal.invariant-loop-low
invariant-loop-low l =
    (l.low ≤ l.high) × (l.high ≤ l.n) × ((k : ℕ) → k < l.low → array_at l.table k < l.array) × ((k : ℕ) → l.high ≤ k → k < l.n
    → l.array ≤ array_at l.table k)

abbrev pub decreases-loop-low : goal.decreases-loop-low
decreases-loop-low l = l.high - l.low
