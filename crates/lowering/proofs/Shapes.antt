-- Second editions computed of the definitions (02, 2.9): arrays of other shapes, each with its own widths; 28 and its neighbours. Assumes nothing.
use Prim.Native.Nat.{ℕ}
use mathlib.Core.Path.{◌≡◌, refl}
use mathlib.Core.Bool.{true, false}
use mathlib.Core.List.{List, [], ◌∷◌}
use Rattle.answers.specs.declared.Words.{Words}
use Rattle.answers.specs.Answer.{SortTable}
use Rattle.answers.specs.Answer.{words_of}
use Rattle.answers.specs.Refusal.{words}
use Rattle.answers.specs.Result.{result_of}
use Rattle.lists.specs.Build.{build}
use Rattle.lists.specs.First.{first}
use Rattle.lists.specs.Tests.{all, agree}
use Rattle.lists.specs.Trace.{trace}
use Rattle.sorts.specs.Sorts.{Edition, first_edition, second_edition, sort_good}
use Rattle.lowering.specs.Images.{row_is, both_const, same_const, unequal_const}
use Rattle.lowering.specs.Tables.{same_read, same_function, same_call, read_good, call_good}
use Rattle.lowering.specs.Matching.{is_eq, is_level, walk, end_good, call_matches, var_matches, node_matches, row_answer, row_classes}
use Rattle.lowering.specs.Roots.{leads, pairs_with, pairs, reads_need, all_equal, congruent, root_at}
use Rattle.lowering.specs.Lowering.{Lowering, lowering_in}
use Rattle.lowering.specs.Check.{first_refusal, check, check_answer_by}
use Rattle.lowering.proofs.Cases.{s5, t4}

-- Check and the strict check, with room for twenty words in each list
abbrev both : Lowering → List Words
both L = words_of (check_answer_by false L 20 20 20 20) ∷ words_of (check_answer_by true L 20 20 20 20) ∷ []

abbrev same : Words → List Words
same w = w ∷ w ∷ []

-- a read of array 7 at an index of i bits: Var(i), Select(7,0), Eq(1,1), root 2; Var(i), Var(c), Eq(1,1), root 2
abbrev reading : Edition → ℕ → ℕ → List ℕ → Lowering
reading E i c tbits =
    lowering_in E (s5 0 i 0 0 0 (s5 37 7 0 0 0 (s5 19 1 1 0 0 []))) [] [] (2 ∷ []) (0 ∷ 1 ∷ 2 ∷ []) (1 ∷ 7 ∷ 0 ∷ []) [] []
    (t4 0 i 0 0 (t4 0 c 0 0 (t4 19 1 1 0 []))) tbits (2 ∷ [])

-- "The new scale has 16-bit addresses and 16-bit cells"
case-new-scale : both (reading (second_edition (7 ∷ 16 ∷ 16 ∷ [])) 16 16 []) ≡ same (words 0 0 0)
unfolding first_refusal build first all agree trace row_is both_const same_const unequal_const same_read same_function same_call read_good
    call_good is_eq
    is_level walk end_good
    call_matches var_matches node_matches row_answer row_classes leads pairs_with pairs reads_need all_equal congruent root_at sort_good
case-new-scale = refl

-- the two widths of an array are not each other's: an index of the cell's width is 1, a variable of the index's is 5
case-index : both (reading (second_edition (7 ∷ 5 ∷ 3 ∷ [])) 3 3 []) ≡ same (words 1 1 0)
unfolding first_refusal build first all agree trace row_is both_const same_const unequal_const same_read same_function same_call read_good
    call_good is_eq
    is_level walk end_good
    call_matches var_matches node_matches row_answer row_classes leads pairs_with pairs reads_need all_equal congruent root_at sort_good
case-index = refl

case-cell : both (reading (second_edition (7 ∷ 5 ∷ 3 ∷ [])) 5 5 []) ≡ same (words 5 0 0)
unfolding first_refusal build first all agree trace row_is both_const same_const unequal_const same_read same_function same_call read_good
    call_good is_eq
    is_level walk end_good
    call_matches var_matches node_matches row_answer row_classes leads pairs_with pairs reads_need all_equal congruent root_at sort_good
case-cell = refl

-- each array by its own entry: array 6 is listed beside it, with other widths
case-own-entry : both (reading (second_edition (6 ∷ 3 ∷ 5 ∷ 7 ∷ 5 ∷ 3 ∷ [])) 5 3 []) ≡ same (words 0 0 0)
unfolding first_refusal build first all agree trace row_is both_const same_const unequal_const same_read same_function same_call read_good
    call_good is_eq
    is_level walk end_good
    call_matches var_matches node_matches row_answer row_classes leads pairs_with pairs reads_need all_equal congruent root_at sort_good
case-own-entry = refl

-- "An array not listed makes its Select ill-formed (1)", also at 32 and 8, and in an empty table
case-unlisted : both (reading (second_edition (8 ∷ 32 ∷ 8 ∷ [])) 32 8 []) ∷ both (reading (second_edition []) 32 8 []) ∷ [] ≡ same (words 1 1 0)
    ∷ same (words 1 1 0) ∷ []
unfolding first_refusal build first all agree trace row_is both_const same_const unequal_const same_read same_function same_call read_good
    call_good is_eq
    is_level walk end_good
    call_matches var_matches node_matches row_answer row_classes leads pairs_with pairs reads_need all_equal congruent root_at sort_good
case-unlisted = refl

-- "a read entry that names one is refused by 5": Var(32) alone, and an entry of array 7 for a Var(8)
case-entry : both (lowering_in (second_edition []) (s5 0 32 0 0 0 []) [] [] [] (0 ∷ []) (1 ∷ 7 ∷ 0 ∷ []) [] [] (t4 0 32 0 0 (t4 0 8 0 0 [])) [] [])
    ≡ same (words 5 0 0)
unfolding first_refusal build first all agree trace row_is both_const same_const unequal_const same_read same_function same_call read_good
    call_good is_eq
    is_level walk end_good
    call_matches var_matches node_matches row_answer row_classes leads pairs_with pairs reads_need all_equal congruent root_at sort_good
case-entry = refl

-- "A cell width above 4,096 makes its Select 1, not 28"
case-wide : both (reading (second_edition (7 ∷ 16 ∷ 4097 ∷ [])) 16 16 []) ≡ same (words 1 1 0)
unfolding first_refusal build first all agree trace row_is both_const same_const unequal_const same_read same_function same_call read_good
    call_good is_eq
    is_level walk end_good
    call_matches var_matches node_matches row_answer row_classes leads pairs_with pairs reads_need all_equal congruent root_at sort_good
case-wide = refl

-- 28 "after 17": beside a bad bit of the target; and before 1: beside a Select that is ill-formed
case-after-17 : both (reading (second_edition (7 ∷ 16 ∷ [])) 16 16 (2 ∷ [])) ≡ same (words 17 0 2)
unfolding first_refusal build first all agree trace row_is both_const same_const unequal_const same_read same_function same_call read_good
    call_good is_eq
    is_level walk end_good
    call_matches var_matches node_matches row_answer row_classes leads pairs_with pairs reads_need all_equal congruent root_at sort_good
case-after-17 = refl

case-before-1 : both (reading (second_edition (7 ∷ 5 ∷ 3 ∷ 7 ∷ 5 ∷ 3 ∷ [])) 16 16 []) ≡ same (words 28 1 0)
unfolding first_refusal build first all agree trace row_is both_const same_const unequal_const same_read same_function same_call read_good
    call_good is_eq
    is_level walk end_good
    call_matches var_matches node_matches row_answer row_classes leads pairs_with pairs reads_need all_equal congruent root_at sort_good
case-before-1 = refl

-- 28 zeroes all four lists
case-zeroes : check (reading (second_edition (7 ∷ [])) 16 16 []) (9 ∷ 9 ∷ 9 ∷ []) (9 ∷ 9 ∷ 9 ∷ []) (9 ∷ 9 ∷ 9 ∷ []) (9 ∷ 9 ∷ 9 ∷ [])
    ≡ result_of (SortTable 0) ((0 ∷ 0 ∷ 0 ∷ []) ∷ (0 ∷ 0 ∷ 0 ∷ []) ∷ (0 ∷ 0 ∷ 0 ∷ []) ∷ (0 ∷ 0 ∷ 0 ∷ []) ∷ [])
unfolding first_refusal build first all agree trace row_is both_const same_const unequal_const same_read same_function same_call read_good
    call_good is_eq
    is_level walk end_good
    call_matches var_matches node_matches row_answer row_classes leads pairs_with pairs reads_need all_equal congruent root_at sort_good
case-zeroes = refl

-- the first edition has 32 and 8 and no other widths
case-first : both (reading first_edition 32 8 []) ∷ both (reading first_edition 16 16 []) ∷ [] ≡ same (words 0 0 0) ∷ same (words 1 1 0) ∷ []
unfolding first_refusal build first all agree trace row_is both_const same_const unequal_const same_read same_function same_call read_good
    call_good is_eq
    is_level walk end_good
    call_matches var_matches node_matches row_answer row_classes leads pairs_with pairs reads_need all_equal congruent root_at sort_good
case-first = refl
