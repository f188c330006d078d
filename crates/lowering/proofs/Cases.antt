-- 01's marked cases, computed of the definitions: the twelve, with their variants, and a few more of our own. Assumes nothing.
use Prim.Native.Nat.{ℕ, ◌-◌}
use mathlib.Core.Path.{◌≡◌, refl}
use mathlib.Core.Bool.{true}
use mathlib.Core.List.{List, [], ◌∷◌}
use Rattle.answers.specs.declared.Words.{Words}
use Rattle.answers.specs.Answer.{Accepted, ChainMismatch, WorkShort, BadRoot}
use Rattle.answers.specs.Answer.{words_of}
use Rattle.answers.specs.Refusal.{words}
use Rattle.answers.specs.Result.{Result, result_of}
use Rattle.bv.specs.Bits.{of_bits}
use Rattle.bv.specs.Bv.{bvsdiv, bvsrem, bvrotr, rotate_right}
use Rattle.lists.specs.Build.{build}
use Rattle.lists.specs.First.{first}
use Rattle.lists.specs.Tests.{all, agree}
use Rattle.lists.specs.Trace.{trace}
use Rattle.rows.specs.Row.{MAX}
use Rattle.lowering.specs.Images.{row_is, both_const, same_const, unequal_const}
use Rattle.lowering.specs.Tables.{same_read, same_function, same_call, read_good, call_good}
use Rattle.lowering.specs.Matching.{is_eq, is_level, walk, end_good, call_matches, var_matches, node_matches, row_answer, row_classes}
use Rattle.lowering.specs.Roots.{leads, pairs_with, pairs, reads_need, all_equal, congruent, root_at}
use Rattle.lowering.specs.Lowering.{Lowering, lowering}
use Rattle.lowering.specs.Check.{first_refusal, check, strict_check, check_answer, check_answer_by}

-- rows, one after the other
abbrev pub s5 : ℕ → ℕ → ℕ → ℕ → ℕ → List ℕ → List ℕ
s5 t a b c d rest = t ∷ a ∷ b ∷ c ∷ d ∷ rest

abbrev pub t4 : ℕ → ℕ → ℕ → ℕ → List ℕ → List ℕ
t4 t a b c rest = t ∷ a ∷ b ∷ c ∷ rest

-- the answer with room for twenty words in each list
abbrev answer : Lowering → Words
answer L = words_of (check_answer L 20 20 20 20)

abbrev accepted : Words
accepted = words 0 0 0

-- "Base: source Var(32), Select(7,0,0,0), Eq(1,1), roots [2]; target Var(32), Var(8), Eq(1,1), roots [2]; map [0,1,2]; reads [1,7,0]"
abbrev base : List ℕ → List ℕ → List ℕ → List ℕ → Lowering
base eroots map reads troots =
    lowering (s5 0 32 0 0 0 (s5 37 7 0 0 0 (s5 19 1 1 0 0 []))) [] [] eroots map reads [] [] (t4 0 32 0 0 (t4 0 8 0 0 (t4 19 1 1 0 []))) [] troots

abbrev nines : List ℕ
nines = 9 ∷ 9 ∷ 9 ∷ 9 ∷ []

abbrev zeros : List ℕ
zeros = 0 ∷ 0 ∷ 0 ∷ 0 ∷ []

abbrev lent-nines : Lowering → List ℕ → Result
lent-nines L entries = check L nines nines nines entries

-- 1. "Base: accepted, classes 1,4,0", with all four lists; then a refusal that zeroes them and one that writes nothing
cases-1 : lent-nines (base (2 ∷ []) (0 ∷ 1 ∷ 2 ∷ []) (1 ∷ 7 ∷ 0 ∷ []) (2 ∷ [])) nines
    ∷ lent-nines (base (2 ∷ []) (0 ∷ 1 ∷ 2 ∷ []) [] (2 ∷ [])) nines
    ∷ lent-nines (base (2 ∷ []) (0 ∷ 1 ∷ 2 ∷ []) (1 ∷ 7 ∷ 0 ∷ []) (2 ∷ [])) (9 ∷ 9 ∷ [])
    ∷ []
    ≡ result_of Accepted ((32 ∷ 8 ∷ 1 ∷ 0 ∷ []) ∷ (32 ∷ 8 ∷ 1 ∷ 0 ∷ []) ∷ (1 ∷ 4 ∷ 0 ∷ 0 ∷ []) ∷ zeros ∷ [])
    ∷ result_of (ChainMismatch 1) (zeros ∷ zeros ∷ zeros ∷ zeros ∷ [])
    ∷ result_of (WorkShort 4) (nines ∷ nines ∷ nines ∷ (9 ∷ 9 ∷ []) ∷ [])
    ∷ []
unfolding first_refusal build first all agree trace row_is both_const same_const unequal_const same_read same_function same_call read_good
    call_good is_eq
    is_level walk end_good call_matches var_matches node_matches row_answer row_classes leads pairs_with pairs reads_need all_equal congruent root_at
cases-1 = refl

-- 2. "Map [0,1,MAX]: 12." 3. "Map [0,MAX,MAX], no roots: 14 at 1." 4. "No reads: 10 at 1." 5. "Reads [1,7,0,1,7,0]: 5 at 1."
-- 6. "Map [0,1]: 3, expected 3, found 2. Map [0,1,3]: 4 at 2." 7. "Target roots [2,2]: 12."
cases-2-to-7 : answer (base (2 ∷ []) (0 ∷ 1 ∷ MAX ∷ []) (1 ∷ 7 ∷ 0 ∷ []) (2 ∷ []))
    ∷ answer (base [] (0 ∷ MAX ∷ MAX ∷ []) (1 ∷ 7 ∷ 0 ∷ []) [])
    ∷ answer (base (2 ∷ []) (0 ∷ 1 ∷ 2 ∷ []) [] (2 ∷ []))
    ∷ answer (base (2 ∷ []) (0 ∷ 1 ∷ 2 ∷ []) (1 ∷ 7 ∷ 0 ∷ 1 ∷ 7 ∷ 0 ∷ []) (2 ∷ []))
    ∷ answer (base (2 ∷ []) (0 ∷ 1 ∷ []) (1 ∷ 7 ∷ 0 ∷ []) (2 ∷ []))
    ∷ answer (base (2 ∷ []) (0 ∷ 1 ∷ 3 ∷ []) (1 ∷ 7 ∷ 0 ∷ []) (2 ∷ []))
    ∷ answer (base (2 ∷ []) (0 ∷ 1 ∷ 2 ∷ []) (1 ∷ 7 ∷ 0 ∷ []) (2 ∷ 2 ∷ []))
    ∷ []
    ≡ words 12 0 0 ∷ words 14 1 0 ∷ words 10 1 0 ∷ words 5 1 0 ∷ words 3 3 2 ∷ words 4 2 0 ∷ words 12 0 0 ∷ []
unfolding first_refusal build first all agree trace row_is both_const same_const unequal_const same_read same_function same_call read_good
    call_good is_eq
    is_level walk end_good call_matches var_matches node_matches row_answer row_classes leads pairs_with pairs reads_need all_equal congruent root_at
cases-2-to-7 = refl

-- the place of 12: the second root differs, finds the target's list ended, is past the rows where the target holds MAX
cases-12 : answer (base (2 ∷ 2 ∷ []) (0 ∷ 1 ∷ 2 ∷ []) (1 ∷ 7 ∷ 0 ∷ []) (2 ∷ 0 ∷ []))
    ∷ answer (base (2 ∷ 2 ∷ []) (0 ∷ 1 ∷ 2 ∷ []) (1 ∷ 7 ∷ 0 ∷ []) (2 ∷ []))
    ∷ answer (base (2 ∷ 3 ∷ []) (0 ∷ 1 ∷ 2 ∷ []) (1 ∷ 7 ∷ 0 ∷ []) (2 ∷ MAX ∷ []))
    ∷ []
    ≡ words 12 1 0 ∷ words 12 1 0 ∷ words 12 1 0 ∷ []
unfolding first_refusal build first all agree trace row_is both_const same_const unequal_const same_read same_function same_call read_good
    call_good is_eq
    is_level walk end_good call_matches var_matches node_matches row_answer row_classes leads pairs_with pairs reads_need all_equal congruent root_at
cases-12 = refl

-- 8. "Source Var(32) twice, Select(7,0,0,0), Select(7,1,0,0), no roots; target Var(32) twice, Var(8) twice, Eq(0,1), Not(4), Eq(2,3), BoolOr(5,6);
-- map [0,1,2,3]; reads [2,7,0,3,7,1]. Target roots [7]: accepted; []: 13 at 0"; the source roots, the two index rows and their bits are given.
-- After a leading root the place is counted in the target's list
abbrev two-reads : List ℕ → (List ℕ → List ℕ) → List ℕ → (List ℕ → List ℕ) → List ℕ → List ℕ → Lowering
two-reads eroots srows ebits trows tbits troots =
    lowering (srows (s5 37 7 0 0 0 (s5 37 7 1 0 0 []))) ebits [] eroots (0 ∷ 1 ∷ 2 ∷ 3 ∷ []) (2 ∷ 7 ∷ 0 ∷ 3 ∷ 7 ∷ 1 ∷ []) [] []
    (trows (t4 0 8 0 0 (t4 0 8 0 0 (t4 19 0 1 0 (t4 29 4 0 0 (t4 19 2 3 0 (t4 31 5 6 0 []))))))) tbits troots

abbrev with-variables : List ℕ → List ℕ → Lowering
with-variables eroots troots = two-reads eroots (λ m. s5 0 32 0 0 0 (s5 0 32 0 0 0 m)) [] (λ m. t4 0 32 0 0 (t4 0 32 0 0 m)) [] troots

cases_8 : answer (with-variables [] (7 ∷ [])) ∷ answer (with-variables [] []) ∷ answer (with-variables (2 ∷ []) (2 ∷ 3 ∷ [])) ∷ [] ≡ accepted
    ∷ words 13 0 0 ∷ words 13 1 0 ∷ []
unfolding first_refusal build first all agree trace row_is both_const same_const unequal_const same_read same_function same_call read_good
    call_good is_eq
    is_level walk end_good call_matches var_matches node_matches row_answer row_classes leads pairs_with pairs reads_need all_equal congruent root_at
cases_8 = refl

-- 9. "Case 8 with unequal constant indices on both sides: [] accepted, [7] gives 12. Equal constants: [] gives 13 at 0"
abbrev with-constants : List ℕ → List ℕ → Lowering
with-constants bits troots = two-reads [] (λ m. s5 1 0 32 0 0 (s5 1 32 32 0 0 m)) bits (λ m. t4 1 0 32 0 (t4 1 32 32 0 m)) bits troots

abbrev zeros31 : List ℕ → List ℕ
zeros31 l =
    0 ∷ 0 ∷ 0 ∷ 0 ∷ 0 ∷ 0 ∷ 0 ∷ 0 ∷ 0 ∷ 0 ∷ 0 ∷ 0 ∷ 0 ∷ 0 ∷ 0 ∷ 0 ∷ 0 ∷ 0 ∷ 0 ∷ 0 ∷ 0 ∷ 0 ∷ 0 ∷ 0 ∷ 0 ∷ 0 ∷ 0 ∷ 0 ∷ 0 ∷ 0 ∷ 0 ∷ l

abbrev bits64 : ℕ → ℕ → List ℕ
bits64 a b = a ∷ zeros31 (b ∷ zeros31 [])

cases-9 : answer (with-constants (bits64 0 1) []) ∷ answer (with-constants (bits64 0 1) (7 ∷ [])) ∷ answer (with-constants (bits64 1 1) []) ∷ []
    ≡ accepted ∷ words 12 0 0 ∷ words 13 0 0 ∷ []
unfolding first_refusal build first all agree trace row_is both_const same_const unequal_const same_read same_function same_call read_good
    call_good is_eq
    is_level walk end_good call_matches var_matches node_matches row_answer row_classes leads pairs_with pairs reads_need all_equal congruent root_at
cases-9 = refl

-- one constant index and one variable need their root
case-one-constant : answer (two-reads [] (λ m. s5 1 0 32 0 0 (s5 0 32 0 0 0 m)) (0 ∷ zeros31 []) (λ m. t4 1 0 32 0 (t4 0 32 0 0 m)) (0 ∷ zeros31 [])
    []) ≡ words 13 0 0
unfolding first_refusal build first all agree trace row_is both_const same_const unequal_const same_read same_function same_call read_good
    call_good is_eq
    is_level walk end_good call_matches var_matches node_matches row_answer row_classes leads pairs_with pairs reads_need all_equal congruent root_at
case-one-constant = refl

-- 10. "Source Var(32) twice, Var(8), Select(7,1,0,1), pair (0,2); target Var(32) twice, Var(8) twice, Eq(0,1), Ite(4,2,3); map [0,1,2,5];
-- reads [3,7,1]; no roots: accepted. With Eq(1,0): 10 at 3"
abbrev one_store : ℕ → ℕ → Lowering
one_store a b =
    lowering (s5 0 32 0 0 0 (s5 0 32 0 0 0 (s5 0 8 0 0 0 (s5 37 7 1 0 1 [])))) [] (0 ∷ 2 ∷ []) [] (0 ∷ 1 ∷ 2 ∷ 5 ∷ []) (3 ∷ 7 ∷ 1 ∷ []) [] []
    (t4 0 32 0 0 (t4 0 32 0 0 (t4 0 8 0 0 (t4 0 8 0 0 (t4 19 a b 0 (t4 18 4 2 3 [])))))) [] []

cases-10 : answer (one_store 0 1) ∷ answer (one_store 1 0) ∷ [] ≡ accepted ∷ words 10 3 0 ∷ []
unfolding first_refusal build first all agree trace row_is both_const same_const unequal_const same_read same_function same_call read_good
    call_good is_eq
    is_level walk end_good call_matches var_matches node_matches row_answer row_classes leads pairs_with pairs reads_need all_equal congruent root_at
cases-10 = refl

-- 11. "Two Call(3,8,0,0), target Var(8), map [0,0], calls [0,3,0,0]: accepted"
case-11 : answer (lowering (s5 38 3 8 0 0 (s5 38 3 8 0 0 [])) [] [] [] (0 ∷ 0 ∷ []) [] (0 ∷ 3 ∷ 0 ∷ 0 ∷ []) [] (t4 0 8 0 0 []) [] []) ≡ accepted
unfolding first_refusal build first all agree trace row_is both_const same_const unequal_const same_read same_function same_call read_good
    call_good is_eq
    is_level walk end_good call_matches var_matches node_matches row_answer row_classes leads pairs_with pairs reads_need all_equal congruent root_at
case-11 = refl

-- the pairs first to last, so that the newest store stands outermost: source Var(32) three times, Var(8) twice, Select(7,2,0,2), pairs (0,3), (1,4);
-- target the same variables, Var(8), Eq(0,2), Eq(1,2), Ite(c,u,5), Ite(d,v,8). Oldest first: 10
abbrev two-stores : ℕ → ℕ → ℕ → ℕ → Lowering
two-stores c u d v =
    lowering (s5 0 32 0 0 0 (s5 0 32 0 0 0 (s5 0 32 0 0 0 (s5 0 8 0 0 0 (s5 0 8 0 0 0 (s5 37 7 2 0 2 [])))))) [] (0 ∷ 3 ∷ 1 ∷ 4 ∷ []) []
    (0 ∷ 1 ∷ 2 ∷ 3 ∷ 4 ∷ 9 ∷ [])
    (5 ∷ 7 ∷ 2 ∷ []) [] []
    (t4 0 32 0 0 (t4 0 32 0 0 (t4 0 32 0 0 (t4 0 8 0 0 (t4 0 8 0 0 (t4 0 8 0 0 (t4 19 0 2 0 (t4 19 1 2 0 (t4 18 c u 5 (t4 18 d v 8 [])))))))))) [] []

-- two calls of one function, each with one argument, and the target roots
abbrev two-calls : List ℕ → Lowering
two-calls troots =
    lowering (s5 0 32 0 0 0 (s5 0 32 0 0 0 (s5 38 3 8 0 1 (s5 38 3 8 1 1 [])))) [] (0 ∷ 1 ∷ []) [] (0 ∷ 1 ∷ 2 ∷ 3 ∷ []) []
    (2 ∷ 3 ∷ 0 ∷ 1 ∷ 3 ∷ 3 ∷ 1 ∷ 1 ∷ []) (0 ∷ 1 ∷ [])
    (t4 0 32 0 0 (t4 0 32 0 0 (t4 0 8 0 0 (t4 0 8 0 0 (t4 19 0 1 0 (t4 29 4 0 0 (t4 19 2 3 0 (t4 31 5 6 0 [])))))))) [] troots

cases-stores-calls : answer (two-stores 7 4 6 3) ∷ answer (two-stores 6 3 7 4) ∷ answer (two-calls (7 ∷ [])) ∷ answer (two-calls []) ∷ []
    ≡ accepted ∷ words 10 5 0 ∷ accepted ∷ words 13 0 0 ∷ []
unfolding first_refusal build first all agree trace row_is both_const same_const unequal_const same_read same_function same_call read_good
    call_good is_eq
    is_level walk end_good call_matches var_matches node_matches row_answer row_classes leads pairs_with pairs reads_need all_equal congruent root_at
cases-stores-calls = refl

-- one test each, the others pass: a Call of width 16 with a Var(8) as image is 11; a Select at the second index with the first's entry is 10; an
-- entry with an index of width 8 is 5; two variables with one image are 7
cases-one-test : answer (lowering (s5 38 3 16 0 0 []) [] [] [] (0 ∷ []) [] (0 ∷ 3 ∷ 0 ∷ 0 ∷ []) [] (t4 0 8 0 0 []) [] [])
    ∷ answer (lowering (s5 0 32 0 0 0 (s5 0 32 0 0 0 (s5 37 7 1 0 0 []))) [] [] [] (0 ∷ 1 ∷ 2 ∷ []) (2 ∷ 7 ∷ 0 ∷ []) [] []
    (t4 0 32 0 0 (t4 0 32 0 0 (t4 0 8 0 0 []))) [] [])
    ∷ answer (lowering [] [] [] [] [] (1 ∷ 7 ∷ 0 ∷ []) [] [] (t4 0 8 0 0 (t4 0 8 0 0 [])) [] [])
    ∷ answer (lowering (s5 0 32 0 0 0 (s5 0 32 0 0 0 [])) [] [] [] (0 ∷ 0 ∷ []) [] [] [] (t4 0 32 0 0 []) [] [])
    ∷ []
    ≡ words 11 0 0 ∷ words 10 2 0 ∷ words 5 0 0 ∷ words 7 1 0 ∷ []
unfolding first_refusal build first all agree trace row_is both_const same_const unequal_const same_read same_function same_call read_good
    call_good is_eq
    is_level walk end_good call_matches var_matches node_matches row_answer row_classes leads pairs_with pairs reads_need all_equal congruent root_at
cases-one-test = refl

-- the ceiling (02, 2.8): a variable of 4,096 bits passes; a Call of 4,097 is 1, before the map that is short; a target's Concat of 4,097 bits is 2
cases-ceiling : answer (lowering (s5 0 4096 0 0 0 []) [] [] [] (0 ∷ []) [] [] [] (t4 0 4096 0 0 []) [] [])
    ∷ answer (lowering (s5 38 3 4097 0 0 []) [] [] [] [] [] [] [] (t4 0 4097 0 0 []) [] [])
    ∷ answer (lowering (s5 0 1 0 0 0 []) [] [] [] [] [] [] [] (t4 0 1 0 0 (t4 0 4096 0 0 (t4 15 0 1 0 []))) [] [])
    ∷ []
    ≡ accepted ∷ words 1 0 0 ∷ words 2 2 0 ∷ []
unfolding first_refusal build first all agree trace row_is both_const same_const unequal_const same_read same_function same_call read_good
    call_good is_eq
    is_level walk end_good call_matches var_matches node_matches row_answer row_classes leads pairs_with pairs reads_need all_equal congruent root_at
cases-ceiling = refl

-- functions told apart by their widths (02, 2.7). Two calls without arguments, each with its variable: of 8 and 16 bits they are two functions and
-- accepted, of 8 bits both they have one key, 6. With one argument row, at two result widths, no root is due
abbrev two-results : ℕ → ℕ → ℕ → Lowering
two-results w v k =
    lowering (s5 0 8 0 0 0 (s5 38 3 w 0 k (s5 38 3 v 0 k []))) [] (0 ∷ []) [] (0 ∷ 1 ∷ 2 ∷ []) [] (1 ∷ 3 ∷ 0 ∷ k ∷ 2 ∷ 3 ∷ 0 ∷ k ∷ []) (0 ∷ [])
    (t4 0 8 0 0 (t4 0 w 0 0 (t4 0 v 0 0 []))) [] []

cases-results : answer (two-results 8 16 0) ∷ answer (two-results 8 8 0) ∷ answer (two-results 8 16 1) ∷ answer (two-results 8 8 1) ∷ []
    ≡ accepted ∷ words 6 1 0 ∷ accepted ∷ words 6 1 0 ∷ []
unfolding first_refusal build first all agree trace row_is both_const same_const unequal_const same_read same_function same_call read_good
    call_good is_eq
    is_level walk end_good call_matches var_matches node_matches row_answer row_classes leads pairs_with pairs reads_need all_equal congruent root_at
cases-results = refl

-- three calls whose arguments have 8, u and 8 bits: where u is 16, one root is due, row 9, for the first and the third. Row 14 says of the first and
-- the second, its argument widened to u bits, what their root would say: before the root that is due it is 13, behind it 12. Where u is 8, three
-- roots are due
abbrev three-calls : ℕ → List ℕ → Lowering
three-calls u troots =
    lowering (s5 0 8 0 0 0 (s5 0 u 0 0 0 (s5 0 8 0 0 0 (s5 38 3 8 0 1 (s5 38 3 8 1 1 (s5 38 3 8 2 1 [])))))) [] (0 ∷ 1 ∷ 2 ∷ []) []
    (0 ∷ 1 ∷ 2 ∷ 3 ∷ 4 ∷ 5 ∷ []) []
    (3 ∷ 3 ∷ 0 ∷ 1 ∷ 4 ∷ 3 ∷ 1 ∷ 1 ∷ 5 ∷ 3 ∷ 2 ∷ 1 ∷ []) (0 ∷ 1 ∷ 2 ∷ [])
    (t4 0 8 0 0 (t4 0 u 0 0 (t4 0 8 0 0 (t4 0 8 0 0 (t4 0 8 0 0 (t4 0 8 0 0
    (t4 19 0 2 0 (t4 29 6 0 0 (t4 19 3 5 0 (t4 31 7 8 0
    (t4 16 0 (u - 8) 0 (t4 19 10 1 0 (t4 29 11 0 0 (t4 19 3 4 0 (t4 31 12 13 0 []))))))))))))))) [] troots

case-arguments : answer (three-calls 16 (9 ∷ [])) ≡ accepted
unfolding first_refusal build first all agree trace row_is both_const same_const unequal_const same_read same_function same_call read_good
    call_good is_eq
    is_level walk end_good call_matches var_matches node_matches row_answer row_classes leads pairs_with pairs reads_need all_equal congruent root_at
case-arguments = refl

cases-arguments : answer (three-calls 16 [])
    ∷ answer (three-calls 16 (14 ∷ 9 ∷ []))
    ∷ answer (three-calls 16 (9 ∷ 14 ∷ []))
    ∷ answer (three-calls 8 (9 ∷ []))
    ∷ []
    ≡ words 13 0 0 ∷ words 13 0 0 ∷ words 12 0 0 ∷ words 13 0 0 ∷ []
unfolding first_refusal build first all agree trace row_is both_const same_const unequal_const same_read same_function same_call read_good
    call_good is_eq
    is_level walk end_good call_matches var_matches node_matches row_answer row_classes leads pairs_with pairs reads_need all_equal congruent root_at
cases-arguments = refl

-- two calls with arguments x, y and x, z, where y has 8 bits and z u bits: a difference in the last argument alone tells them apart. The root that
-- would say so is ill-formed there: Eq(1,2) is row 5
abbrev last-argument : ℕ → (List ℕ → List ℕ) → Lowering
last-argument u more =
    lowering (s5 0 8 0 0 0 (s5 0 8 0 0 0 (s5 0 u 0 0 0 (s5 38 3 8 0 2 (s5 38 3 8 2 2 []))))) [] (0 ∷ 1 ∷ 0 ∷ 2 ∷ []) [] (0 ∷ 1 ∷ 2 ∷ 3 ∷ 4 ∷ []) []
    (3 ∷ 3 ∷ 0 ∷ 2 ∷ 4 ∷ 3 ∷ 2 ∷ 2 ∷ []) (0 ∷ 1 ∷ 0 ∷ 2 ∷ []) (t4 0 8 0 0 (t4 0 8 0 0 (t4 0 u 0 0 (t4 0 8 0 0 (t4 0 8 0 0 (more [])))))) [] []

cases_last : answer (last-argument 16 (λ m. m)) ∷ answer (last-argument 8 (λ m. m)) ∷ answer (last-argument 16 (t4 19 1 2 0)) ∷ []
    ≡ accepted ∷ words 13 0 0 ∷ words 2 5 0 ∷ []
unfolding first_refusal build first all agree trace row_is both_const same_const unequal_const same_read same_function same_call read_good
    call_good is_eq
    is_level walk end_good call_matches var_matches node_matches row_answer row_classes leads pairs_with pairs reads_need all_equal congruent root_at
cases_last = refl

-- one-bit roots (02, 2.6): what Check answers, and what the strict check does. Of the base, row 2 has one bit, row 1 has eight, and there is no row 3
abbrev both : Lowering → List Words
both L = answer L ∷ words_of (check_answer_by true L 20 20 20 20) ∷ []

abbrev rooted : List ℕ → List ℕ → Lowering
rooted eroots troots = base eroots (0 ∷ 1 ∷ 2 ∷ []) (1 ∷ 7 ∷ 0 ∷ []) troots

case-one-bit : both (rooted (2 ∷ 2 ∷ []) (2 ∷ 2 ∷ [])) ≡ accepted ∷ accepted ∷ []
unfolding first_refusal build first all agree trace row_is both_const same_const unequal_const same_read same_function same_call read_good
    call_good is_eq
    is_level walk end_good call_matches var_matches node_matches row_answer row_classes leads pairs_with pairs reads_need all_equal congruent root_at
case-one-bit = refl

-- a source root of eight bits, which Check takes: its position, in the source
case-eight-bits : both (rooted (2 ∷ 1 ∷ []) (2 ∷ 1 ∷ [])) ≡ accepted ∷ words 19 1 1 ∷ []
unfolding first_refusal build first all agree trace row_is both_const same_const unequal_const same_read same_function same_call read_good
    call_good is_eq
    is_level walk end_good call_matches var_matches node_matches row_answer row_classes leads pairs_with pairs reads_need all_equal congruent root_at
case-eight-bits = refl

-- the same of the target alone, behind the last root that is due
case-target-bits : both (rooted (2 ∷ []) (2 ∷ 1 ∷ [])) ≡ words 12 0 0 ∷ words 19 1 2 ∷ []
unfolding first_refusal build first all agree trace row_is both_const same_const unequal_const same_read same_function same_call read_good
    call_good is_eq
    is_level walk end_good call_matches var_matches node_matches row_answer row_classes leads pairs_with pairs reads_need all_equal congruent root_at
case-target-bits = refl

-- roots past the rows, in the source and in the target
cases-past : both (rooted (3 ∷ []) (2 ∷ [])) ∷ both (rooted (2 ∷ []) (2 ∷ 3 ∷ [])) ∷ []
    ≡ (words 12 0 0 ∷ words 19 0 1 ∷ []) ∷ (words 12 0 0 ∷ words 19 1 2 ∷ []) ∷ []
unfolding first_refusal build first all agree trace row_is both_const same_const unequal_const same_read same_function same_call read_good
    call_good is_eq
    is_level walk end_good call_matches var_matches node_matches row_answer row_classes leads pairs_with pairs reads_need all_equal congruent root_at
cases-past = refl

-- both lists are bad: the source's goes first, though the target's is bad at an earlier position
case-both-lists : both (rooted (2 ∷ 1 ∷ []) (1 ∷ 2 ∷ [])) ≡ words 12 0 0 ∷ words 19 1 1 ∷ []
unfolding first_refusal build first all agree trace row_is both_const same_const unequal_const same_read same_function same_call read_good
    call_good is_eq
    is_level walk end_good call_matches var_matches node_matches row_answer row_classes leads pairs_with pairs reads_need all_equal congruent root_at
case-both-lists = refl

-- a map that is short beside a root of eight bits: 3, and 19
case-short-map : both (base (1 ∷ []) (0 ∷ 1 ∷ []) (1 ∷ 7 ∷ 0 ∷ []) (1 ∷ [])) ≡ words 3 3 2 ∷ words 19 0 1 ∷ []
unfolding first_refusal build first all agree trace row_is both_const same_const unequal_const same_read same_function same_call read_good
    call_good is_eq
    is_level walk end_good call_matches var_matches node_matches row_answer row_classes leads pairs_with pairs reads_need all_equal congruent root_at
case-short-map = refl

-- a target that is ill-formed beside such a root: 2 for both. Roots of one bit: both have 12 for a source root without image, 13, 14
cases-before-after : both (lowering (s5 0 8 0 0 0 []) [] [] (0 ∷ []) (0 ∷ []) [] [] [] (t4 19 0 0 0 []) [] (0 ∷ []))
    ∷ both (base (2 ∷ []) (0 ∷ 1 ∷ MAX ∷ []) (1 ∷ 7 ∷ 0 ∷ []) (2 ∷ []))
    ∷ both (with-variables [] [])
    ∷ both (base [] (0 ∷ MAX ∷ MAX ∷ []) (1 ∷ 7 ∷ 0 ∷ []) [])
    ∷ []
    ≡ (words 2 0 0 ∷ words 2 0 0 ∷ [])
    ∷ (words 12 0 0 ∷ words 12 0 0 ∷ [])
    ∷ (words 13 0 0 ∷ words 13 0 0 ∷ [])
    ∷ (words 14 1 0 ∷ words 14 1 0 ∷ [])
    ∷ []
unfolding first_refusal build first all agree trace row_is both_const same_const unequal_const same_read same_function same_call read_good
    call_good is_eq
    is_level walk end_good call_matches var_matches node_matches row_answer row_classes leads pairs_with pairs reads_need all_equal congruent root_at
cases-before-after = refl

-- 19 zeroes all four lists
case-bits-zero : strict_check (rooted (1 ∷ []) (1 ∷ [])) nines nines nines nines ≡ result_of (BadRoot 0 1) (zeros ∷ zeros ∷ zeros ∷ zeros ∷ [])
unfolding first_refusal build first all agree trace row_is both_const same_const unequal_const same_read same_function same_call read_good
    call_good is_eq
    is_level walk end_good call_matches var_matches node_matches row_answer row_classes leads pairs_with pairs reads_need all_equal congruent root_at
case-bits-zero = refl

-- why a dead entry is refused (docs/PROOF.md): source Var(32) twice, Select(7,0), Select(7,1), Ne(2,3), root 4, is satisfiable. The target has a
-- third entry, variable 5, whose index Ite(Eq(5,2),1,0) mentions its own variable and which no Select reaches; with the roots that its pairs need it
-- is not satisfiable
abbrev dead-entry : Lowering
dead-entry =
    lowering (s5 0 32 0 0 0 (s5 0 32 0 0 0 (s5 37 7 0 0 0 (s5 37 7 1 0 0 (s5 20 2 3 0 0 []))))) [] [] (4 ∷ []) (0 ∷ 1 ∷ 2 ∷ 3 ∷ 4 ∷ [])
    (2 ∷ 7 ∷ 0 ∷ 3 ∷ 7 ∷ 1 ∷ 5 ∷ 7 ∷ 7 ∷ []) [] []
    (t4 0 32 0 0 (t4 0 32 0 0 (t4 0 8 0 0 (t4 0 8 0 0 (t4 20 2 3 0 (t4 0 8 0 0 (t4 19 5 2 0 (t4 18 6 1 0
    (t4 19 0 1 0 (t4 29 8 0 0 (t4 19 2 3 0 (t4 31 9 10 0
    (t4 19 0 7 0 (t4 29 12 0 0 (t4 19 2 5 0 (t4 31 13 14 0
    (t4 19 1 7 0 (t4 29 16 0 0 (t4 19 3 5 0 (t4 31 17 18 0 [])))))))))))))))))))) [] (4 ∷ 11 ∷ 15 ∷ 19 ∷ [])

case-dead : answer dead-entry ≡ words 14 5 0
unfolding first_refusal build first all agree trace row_is both_const same_const unequal_const same_read same_function same_call read_good
    call_good is_eq
    is_level walk end_good call_matches var_matches node_matches row_answer row_classes leads pairs_with pairs reads_need all_equal congruent root_at
case-dead = refl

-- 12. "Width 8: Sdiv(128,255)=128, Sdiv(200,0)=1, Sdiv(5,0)=255, Srem(249,2)=255, Rotr(1,9)=128"
case-12 : bvsdiv 8 128 255 ∷ bvsdiv 8 200 0 ∷ bvsdiv 8 5 0 ∷ bvsrem 8 249 2 ∷ bvrotr 8 1 9 ∷ [] ≡ 128 ∷ 1 ∷ 255 ∷ 255 ∷ 128 ∷ []
unfolding rotate_right of_bits
case-12 = refl
