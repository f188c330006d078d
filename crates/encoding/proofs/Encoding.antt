-- What a list without a bad bit holds; the tags of a graph. Assumes nothing.
use Prim.Native.Nat.{ℕ, ◌<◌, ◌≤◌}
use mathlib.Core.List.{List}
use native.Mathlib.Omega.{arith}
use borrow.Author.Tests.{ltb-false}
use lib.ListN.{length, get_or}
use Rattle.lists.proofs.First.{first-before}
use Rattle.lists.proofs.Tests.{get_or-every}
use Rattle.rows.specs.declared.Graph.{Graph}
use Rattle.rows.specs.declared.Graph.TheVariants.{Source, Target}
use Rattle.encoding.specs.Encoding.{tag_count, bit_bad, bad_bit}

-- bits, and 0 past its end
pub clean : (bits : List ℕ) → length bits ≤ bad_bit bits → (k : ℕ) → get_or bits k 0 < 2
clean bits h =
    get_or-every bits (λ x. x < 2) (omega arith)
    (λ k l. let f = ltb-false 1 (get_or bits k 0) (first-before (bit_bad bits) (length bits) k (omega arith)) in omega arith)

-- the tags of a graph are among the 39
pub tags-in : (graph : Graph) → tag_count graph ≤ 39
tags-in Source = omega arith
tags-in Target = omega arith
