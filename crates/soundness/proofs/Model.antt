-- The theorem has something to say: a lowering of two reads that Check accepts, and an assignment that makes its target's roots true; so its source
-- is satisfiable, at the numbers given. Assumes nothing.
use Prim.Native.Nat.{ℕ, zero, suc, ◌<◌, ◌^◌}
use mathlib.Core.Path.{◌≡◌, refl, ap, subst}
use mathlib.Core.Bool.{true, false}
use mathlib.Core.List.{List, [], ◌∷◌}
use native.Mathlib.Omega.{arith}
use lib.Pow.{pow_pos}
use Rattle.sorts.specs.Sorts.{plain}
use Rattle.bv.specs.Bits.{of_bits}
use Rattle.lists.specs.Build.{build}
use Rattle.lists.specs.First.{first}
use Rattle.lists.specs.Tests.{all, agree}
use Rattle.lists.specs.Trace.{trace}
use Rattle.rows.specs.declared.Node.{Node}
use Rattle.rows.specs.declared.Node.TheVariants.{Var, Const, Un, Bin, Extract, Extend, Ite, Select, Call, Unknown}
use Rattle.value.specs.Val.{val}
use Rattle.value.specs.Graph.{value, Assigns}
use Rattle.value.specs.Operate.{operate}
use Rattle.meaning.specs.Meaning.{Interpretation, is_true_bit, RootsTrue, stored, source_values}
use Rattle.lowering.specs.Images.{row_is, both_const, same_const, unequal_const}
use Rattle.lowering.specs.Tables.{same_read, same_function, same_call, read_good, call_good}
use Rattle.lowering.specs.Matching.{is_eq, is_level, walk, end_good, call_matches, var_matches, node_matches, row_answer, row_classes}
use Rattle.lowering.specs.Roots.{leads, pairs_with, pairs, reads_need, all_equal, congruent, root_at}
use Rattle.lowering.specs.Lowering.{Lowering, lowering}
use Rattle.lowering.specs.Check.{first_refusal}
use Rattle.soundness.specs.Sound.{Accepts, StrictlyAccepts, SourceTrue, SourceTrueBy, TargetTrue, TargetTrueBy, SourceIsSatisfiable}
use Rattle.soundness.specs.Transfer.{read_hit, interpretation}
use Rattle.soundness.proofs.Accepted.{zero-interpretation, zero-fits}
use Rattle.soundness.proofs.Theorem.{truths-agree, backward-along}

-- source Var(32) twice, Select(7,0), Select(7,1), Ne(2,3), root 4; target Var(32) twice, Var(8) twice, Ne(2,3), Eq(0,1), Not(5), Eq(2,3),
-- BoolOr(6,7), roots 4 and, for the two reads, 8
abbrev pub two-reads : Lowering
two-reads =
    lowering (0 ∷ 32 ∷ 0 ∷ 0 ∷ 0 ∷ 0 ∷ 32 ∷ 0 ∷ 0 ∷ 0 ∷ 37 ∷ 7 ∷ 0 ∷ 0 ∷ 0 ∷ 37 ∷ 7 ∷ 1 ∷ 0 ∷ 0 ∷ 20 ∷ 2 ∷ 3 ∷ 0 ∷ 0 ∷ []) [] [] (4 ∷ [])
    (0 ∷ 1 ∷ 2 ∷ 3 ∷ 4 ∷ []) (2 ∷ 7 ∷ 0 ∷ 3 ∷ 7 ∷ 1 ∷ []) [] []
    (0 ∷ 32 ∷ 0 ∷ 0 ∷ 0 ∷ 32 ∷ 0 ∷ 0 ∷ 0 ∷ 8 ∷ 0 ∷ 0 ∷ 0 ∷ 8 ∷ 0 ∷ 0 ∷ 20 ∷ 2 ∷ 3 ∷ 0 ∷ 19 ∷ 0 ∷ 1 ∷ 0 ∷ 29 ∷ 5 ∷ 0 ∷ 0 ∷ 19 ∷ 2 ∷ 3 ∷ 0 ∷ 31 ∷ 6 ∷ 7
    ∷ 0 ∷ []) []
    (4 ∷ 8 ∷ [])

abbrev room : List ℕ
room = 0 ∷ 0 ∷ 0 ∷ 0 ∷ 0 ∷ 0 ∷ 0 ∷ 0 ∷ 0 ∷ []

pub accepted : Accepts two-reads room room room room
unfolding first_refusal build first all agree trace row_is both_const same_const unequal_const same_read same_function same_call read_good
    call_good is_eq
    is_level walk end_good call_matches var_matches node_matches row_answer row_classes leads pairs_with pairs reads_need all_equal congruent root_at
accepted = refl

-- the second index and the second byte are 1, all else 0
abbrev pub numbers : ℕ → ℕ
numbers zero = 0
numbers (suc zero) = 1
numbers (suc (suc zero)) = 0
numbers (suc (suc (suc zero))) = 1
numbers (suc (suc (suc (suc r)))) = 0

abbrev pub width_of : Node → ℕ
width_of (Var w) = w
width_of (Const s w) = 0
width_of (Un t a) = 0
width_of (Bin t a b) = 0
width_of (Extract h l a) = 0
width_of (Extend t a n) = 0
width_of (Ite c t e) = 0
width_of (Select a j s k) = 0
width_of (Call f w s k) = 0
width_of Unknown = 0

numbers_fit : Assigns numbers two-reads.target.rows
numbers_fit zero w h e = pow_pos w
numbers_fit (suc zero) w h e = subst (λ (v : ℕ). 1 < 2 ^ v) (ap width_of e) (omega arith)
numbers_fit (suc (suc zero)) w h e = pow_pos w
numbers_fit (suc (suc (suc zero))) w h e = subst (λ (v : ℕ). 1 < 2 ^ v) (ap width_of e) (omega arith)
numbers_fit (suc (suc (suc (suc r)))) w h e = pow_pos w

roots-true : RootsTrue (value two-reads.target.bits numbers two-reads.target.rows) two-reads.troots
unfolding build operate of_bits
roots-true zero h = refl
roots-true (suc zero) h = refl
roots-true (suc (suc k)) h = absurd (omega arith)

pub target-true : TargetTrue two-reads numbers
target-true = (numbers_fit, roots-true)

-- the interpretation that belongs to these numbers makes the source's root true
abbrev pub found : Interpretation
found = interpretation two-reads numbers zero-interpretation

pub source-true : SourceTrue two-reads found
source-true =
    (backward-along false two-reads room room room room (omega arith) accepted numbers zero-interpretation (zero-fits two-reads) target-true).0

pub source-satisfiable : SourceIsSatisfiable two-reads
source-satisfiable = (found, source-true.0, source-true.1)

-- the strict check accepts the lowering too, and the strict truth holds of the same numbers on both sides (02, 2.6)
strictly : StrictlyAccepts two-reads room room room room
unfolding first_refusal build first all agree trace row_is both_const same_const unequal_const same_read same_function same_call read_good
    call_good is_eq
    is_level walk end_good call_matches var_matches node_matches row_answer row_classes leads pairs_with pairs reads_need all_equal congruent root_at
strictly = refl

strict-target : TargetTrueBy two-reads is_true_bit numbers
strict-target = ((truths-agree two-reads room room room room strictly).1 numbers).1 target-true

strict-source : SourceTrueBy two-reads is_true_bit found
strict-source =
    (backward-along true two-reads room room room room (omega arith) strictly numbers zero-interpretation (zero-fits two-reads) strict-target).0

-- and these are its rows: the indices, the bytes that the array holds there, and the root
pub source-numbers : source_values plain two-reads.source.rows two-reads.source.bits two-reads.source.side found 5
    ≡ val 32 0 ∷ val 32 1 ∷ val 8 0 ∷ val 8 1 ∷ val 1 1 ∷ []
unfolding build operate stored interpretation read_hit first all
source-numbers = refl
