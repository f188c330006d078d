-- Two functions with one number (02, 2.7): a lowering that Check accepts, and an assignment that makes its target's root true; so its source is
-- satisfiable, by one function 3 that gives 8 bits and another that gives 16. Assumes nothing.
use Prim.Native.Nat.{ℕ, zero, suc, ◌<◌, ◌^◌}
use mathlib.Core.Path.{◌≡◌, refl, ap, subst}
use mathlib.Core.Bool.{false}
use mathlib.Core.List.{List, [], ◌∷◌}
use native.Mathlib.Omega.{arith}
use lib.Pow.{pow_pos}
use Rattle.bv.specs.Bits.{of_bits}
use Rattle.lists.specs.Build.{build}
use Rattle.lists.specs.First.{first}
use Rattle.lists.specs.Tests.{all, agree}
use Rattle.lists.specs.Trace.{trace, tabulate}
use Rattle.value.specs.Graph.{value, Assigns}
use Rattle.value.specs.Operate.{operate}
use Rattle.meaning.specs.Meaning.{Interpretation, RootsTrue}
use Rattle.lowering.specs.Images.{row_is, both_const, same_const, unequal_const}
use Rattle.lowering.specs.Tables.{same_read, same_function, same_call, read_good, call_good}
use Rattle.lowering.specs.Matching.{is_eq, is_level, walk, end_good, call_matches, var_matches, node_matches, row_answer, row_classes}
use Rattle.lowering.specs.Roots.{leads, pairs_with, pairs, reads_need, all_equal, congruent, root_at}
use Rattle.lowering.specs.Lowering.{Lowering, lowering}
use Rattle.lowering.specs.Check.{first_refusal}
use Rattle.soundness.specs.Sound.{Accepts, SourceTrue, TargetTrue, SourceIsSatisfiable}
use Rattle.soundness.specs.Transfer.{call_hit, interpretation}
use Rattle.soundness.proofs.Accepted.{zero-interpretation, zero-fits}
use Rattle.soundness.proofs.Model.{width_of}
use Rattle.soundness.proofs.Theorem.{backward-along}

-- source Call(3,8), Call(3,16), ZeroExt(0,8), Ne(2,1), root 3; target Var(8), Var(16), ZeroExt(0,8), Ne(2,1), root 3
abbrev two-functions : Lowering
two-functions =
    lowering (38 ∷ 3 ∷ 8 ∷ 0 ∷ 0 ∷ 38 ∷ 3 ∷ 16 ∷ 0 ∷ 0 ∷ 16 ∷ 0 ∷ 8 ∷ 0 ∷ 0 ∷ 20 ∷ 2 ∷ 1 ∷ 0 ∷ 0 ∷ []) [] [] (3 ∷ []) (0 ∷ 1 ∷ 2 ∷ 3 ∷ []) []
    (0 ∷ 3 ∷ 0 ∷ 0 ∷ 1 ∷ 3 ∷ 0 ∷ 0 ∷ []) [] (0 ∷ 8 ∷ 0 ∷ 0 ∷ 0 ∷ 16 ∷ 0 ∷ 0 ∷ 16 ∷ 0 ∷ 8 ∷ 0 ∷ 20 ∷ 2 ∷ 1 ∷ 0 ∷ []) [] (3 ∷ [])

abbrev room : List ℕ
room = 0 ∷ 0 ∷ 0 ∷ 0 ∷ []

accepted : Accepts two-functions room room room room
unfolding first_refusal build first all agree trace row_is both_const same_const unequal_const same_read same_function same_call read_good
    call_good is_eq
    is_level walk end_good call_matches var_matches node_matches row_answer row_classes leads pairs_with pairs reads_need all_equal congruent root_at
accepted = refl

-- the first variable is 1, the second 2
abbrev numbers : ℕ → ℕ
numbers zero = 1
numbers (suc zero) = 2
numbers (suc (suc r)) = 0

numbers_fit : Assigns numbers two-functions.target.rows
numbers_fit zero w h e = subst (λ (v : ℕ). 1 < 2 ^ v) (ap width_of e) (omega arith)
numbers_fit (suc zero) w h e = subst (λ (v : ℕ). 2 < 2 ^ v) (ap width_of e) (omega arith)
numbers_fit (suc (suc r)) w h e = pow_pos w

root-true : RootsTrue (value two-functions.target.bits numbers two-functions.target.rows) two-functions.troots
unfolding build operate of_bits
root-true zero h = refl
root-true (suc k) h = absurd (omega arith)

target-true : TargetTrue two-functions numbers
target-true = (numbers_fit, root-true)

-- the interpretation that belongs to these numbers makes the source's root true
abbrev found : Interpretation
found = interpretation two-functions numbers zero-interpretation

source-true : SourceTrue two-functions found
source-true =
    (backward-along false two-functions room room room room (omega arith) accepted numbers zero-interpretation (zero-fits two-functions)
    target-true).0

pub source-satisfiable : SourceIsSatisfiable two-functions
source-satisfiable = (found, source-true.0, source-true.1)

-- function 3 without arguments is 1 at 8 bits and 2 at 16
pub function-numbers : found.function 3 8 [] ∷ found.function 3 16 [] ∷ [] ≡ 1 ∷ 2 ∷ []
unfolding interpretation call_hit first all tabulate
function-numbers = refl
