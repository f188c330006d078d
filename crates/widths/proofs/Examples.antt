-- The definitions computed on the graphs of 01's marked cases and on refusals of each number. Assumes nothing.
use Prim.Native.Nat.{ℕ}
use mathlib.Core.Path.{◌≡◌, refl}
use mathlib.Core.List.{List, [], ◌∷◌, ◌++◌}
use lib.ListN.{replicate}
use Rattle.lists.specs.Tests.{all}
use Rattle.sorts.specs.Sorts.{plain, sort_good}
use Rattle.answers.specs.Answer.{Accepted, Ext, Core, RowCount, BadRow, BadBit, WorkShort, BadRoot, SortTable}
use Rattle.lists.specs.First.{first}
use Rattle.lists.specs.Build.{build}
use Rattle.answers.specs.Result.{result_of}
use Rattle.rows.specs.declared.Graph.TheVariants.{Target}
use Rattle.wf.specs.Widths.{ill_row}
use Rattle.widths.specs.Widths.{source_widths, source_widths_with_sorts, target_widths, roots_answer}

-- rows of five and of four words
abbrev s5 : ℕ → ℕ → ℕ → ℕ → ℕ → List ℕ → List ℕ
s5 t a b c d rest = t ∷ a ∷ b ∷ c ∷ d ∷ rest

abbrev t4 : ℕ → ℕ → ℕ → ℕ → List ℕ → List ℕ
t4 t a b c rest = t ∷ a ∷ b ∷ c ∷ rest

abbrev max : ℕ
max = 18446744073709551615

-- a lent list with other contents
abbrev junk : ℕ → List ℕ
junk n = replicate n 9

-- cases 1 to 7: Var(32), Select(7,0,0,0), Eq(1,1); Var(32), Var(8), Eq(1,1); roots [2]
abbrev base_source : List ℕ
base_source = s5 0 32 0 0 0 (s5 37 7 0 0 0 (s5 19 1 1 0 0 []))

abbrev base_target : List ℕ
base_target = t4 0 32 0 0 (t4 0 8 0 0 (t4 19 1 1 0 []))

base_source_lem : source_widths base_source [] [] (junk 4) ≡ result_of Accepted ((32 ∷ 8 ∷ 1 ∷ 0 ∷ []) ∷ [])
unfolding first build
base_source_lem = refl

base_target_lem : target_widths base_target [] (junk 3) ≡ result_of Accepted ((32 ∷ 8 ∷ 1 ∷ []) ∷ [])
unfolding first build
base_target_lem = refl

base-roots : roots_answer (32 ∷ 8 ∷ 1 ∷ []) (2 ∷ []) ≡ Accepted
unfolding first
base-roots = refl

-- case 8
case-8-source : source_widths (s5 0 32 0 0 0 (s5 0 32 0 0 0 (s5 37 7 0 0 0 (s5 37 7 1 0 0 [])))) [] [] (junk 4)
    ≡ result_of Accepted ((32 ∷ 32 ∷ 8 ∷ 8 ∷ []) ∷ [])
unfolding first build
case-8-source = refl

case-8-target : target_widths (t4 0 32 0 0 (t4 0 32 0 0 (t4 0 8 0 0 (t4 0 8 0 0 (t4 19 0 1 0 (t4 29 4 0 0 (t4 19 2 3 0 (t4 31 5 6 0 [])))))))) []
    (junk 8)
    ≡ result_of Accepted ((32 ∷ 32 ∷ 8 ∷ 8 ∷ 1 ∷ 1 ∷ 1 ∷ 1 ∷ []) ∷ [])
unfolding first build
case-8-target = refl

-- case 9: constant indices, 0 and 1 of 32 bits
case-9-source : source_widths (s5 1 0 32 0 0 (s5 1 32 32 0 0 (s5 37 7 0 0 0 (s5 37 7 1 0 0 [])))) (replicate 32 0 ++ 1 ∷ replicate 31 0) [] (junk 4)
    ≡ result_of Accepted ((32 ∷ 32 ∷ 8 ∷ 8 ∷ []) ∷ [])
unfolding first build
case-9-source = refl

-- case 10: a pair (0,2), and its lowering
case-10-source : source_widths (s5 0 32 0 0 0 (s5 0 32 0 0 0 (s5 0 8 0 0 0 (s5 37 7 1 0 1 [])))) [] (0 ∷ 2 ∷ []) (junk 4)
    ≡ result_of Accepted ((32 ∷ 32 ∷ 8 ∷ 8 ∷ []) ∷ [])
unfolding first build
case-10-source = refl

case-10-target : target_widths (t4 0 32 0 0 (t4 0 32 0 0 (t4 0 8 0 0 (t4 0 8 0 0 (t4 19 0 1 0 (t4 18 4 2 3 [])))))) [] (junk 6)
    ≡ result_of Accepted ((32 ∷ 32 ∷ 8 ∷ 8 ∷ 1 ∷ 8 ∷ []) ∷ [])
unfolding first build
case-10-target = refl

-- case 11: calls without arguments; "with count 0 any start passes"
case-11-source : source_widths (s5 38 3 8 0 0 (s5 38 3 8 max 0 [])) [] [] (junk 2) ≡ result_of Accepted ((8 ∷ 8 ∷ []) ∷ [])
unfolding first build
case-11-source = refl

-- 15 and 18 write nothing
ragged-source : source_widths (0 ∷ 32 ∷ []) [] [] (junk 2) ≡ result_of (RowCount 1) ((9 ∷ 9 ∷ []) ∷ [])
ragged-source = refl

short-target : target_widths base_target [] (junk 2) ≡ result_of (WorkShort 2) ((9 ∷ 9 ∷ []) ∷ [])
short-target = refl

-- 16 goes before 17, and 17 before 2; each zeroes the list
bad-row : target_widths (t4 0 0 0 0 (t4 37 0 0 0 [])) (2 ∷ []) (junk 3) ≡ result_of (BadRow 1 2) ((0 ∷ 0 ∷ 0 ∷ []) ∷ [])
unfolding first
bad-row = refl

unused-field : source_widths (s5 0 32 0 0 1 []) [] [] (junk 1) ≡ result_of (BadRow 0 1) ((0 ∷ []) ∷ [])
unfolding first
unused-field = refl

bad-bit : target_widths (t4 0 0 0 0 []) (1 ∷ 2 ∷ []) (junk 1) ≡ result_of (BadBit 1 2) ((0 ∷ []) ∷ [])
unfolding first
bad-bit = refl

-- "A row whose width would pass 4,096 is ill-formed, as 1 in a source and 2 in a target" (02, 2.8): 4,096 passes, from each tag that can pass it
at-ceiling : source_widths
    (s5 0 4096 0 0 0 (s5 0 2048 0 0 0 (s5 15 1 1 0 0 (s5 16 1 2048 0 0 (s5 17 0 0 0 0 (s5 38 3 4096 max 0 [])))))) [] [] (junk 6)
    ≡ result_of Accepted ((4096 ∷ 2048 ∷ 4096 ∷ 4096 ∷ 4096 ∷ 4096 ∷ []) ∷ [])
unfolding first build
at-ceiling = refl

wide-var : source_widths (s5 0 4097 0 0 0 []) [] [] (junk 1) ≡ result_of (Ext 0) ((0 ∷ []) ∷ [])
unfolding first build
wide-var = refl

wide-target : target_widths (t4 0 4097 0 0 []) [] (junk 1) ≡ result_of (Core 0) ((0 ∷ []) ∷ [])
unfolding first build
wide-target = refl

wide-call : source_widths (s5 38 3 4097 0 0 []) [] [] (junk 1) ≡ result_of (Ext 0) ((0 ∷ []) ∷ [])
unfolding first build
wide-call = refl

wide-const : ill_row plain Target 4097 [] (t4 1 0 4096 0 (t4 1 0 4097 0 [])) ≡ 1
unfolding first build
wide-const = refl

wide-sum : target_widths (t4 0 4096 0 0 (t4 0 1 0 0 (t4 15 0 1 0 []))) [] (junk 3) ≡ result_of (Core 2) ((0 ∷ 0 ∷ 0 ∷ []) ∷ [])
unfolding first build
wide-sum = refl

wide-extension : target_widths (t4 0 4096 0 0 (t4 16 0 1 0 [])) [] (junk 2) ≡ result_of (Core 1) ((0 ∷ 0 ∷ []) ∷ [])
unfolding first build
wide-extension = refl

-- nothing wraps, and an earlier row is named first
far-extension : source_widths (s5 0 1 0 0 0 (s5 17 0 max 0 0 [])) [] [] (junk 2) ≡ result_of (Ext 1) ((0 ∷ 0 ∷ []) ∷ [])
unfolding first build
far-extension = refl

far-sum : target_widths (t4 0 max 0 0 (t4 15 0 0 0 [])) [] (junk 2) ≡ result_of (Core 0) ((0 ∷ 0 ∷ []) ∷ [])
unfolding first build
far-sum = refl

-- ranges near 2^64-1 end in a refusal
far-bits : target_widths (t4 1 max 1 0 []) (0 ∷ []) (junk 1) ≡ result_of (Core 0) ((0 ∷ []) ∷ [])
unfolding first build
far-bits = refl

long-chain : source_widths (s5 0 32 0 0 0 (s5 37 7 0 1 max [])) [] (0 ∷ 0 ∷ 0 ∷ []) (junk 2) ≡ result_of (Ext 1) ((0 ∷ 0 ∷ []) ∷ [])
unfolding first build
long-chain = refl

long-call : source_widths (s5 38 3 8 max 2 []) [] (0 ∷ []) (junk 1) ≡ result_of (Ext 0) ((0 ∷ []) ∷ [])
unfolding first build
long-call = refl

-- 19: a width not 1, a row past the widths
wide-root : roots_answer (32 ∷ 8 ∷ 1 ∷ []) (2 ∷ 1 ∷ []) ≡ BadRoot 1 0
unfolding first
wide-root = refl

far-root : roots_answer (32 ∷ 8 ∷ 1 ∷ []) (3 ∷ []) ≡ BadRoot 0 0
unfolding first
far-root = refl

-- "The new scale has 16-bit addresses and 16-bit cells" (02, 2.9): Var(16), Select(7,0)
abbrev new_scale : List ℕ
new_scale = s5 0 16 0 0 0 (s5 37 7 0 0 0 [])

new-scale : source_widths_with_sorts new_scale [] [] (7 ∷ 16 ∷ 16 ∷ []) (junk 3) ≡ result_of Accepted ((16 ∷ 16 ∷ 0 ∷ []) ∷ [])
unfolding first build sort_good all
new-scale = refl

-- "28 SortTable (first entry) .. after 17", and before 1
case-28 : source_widths_with_sorts new_scale [] [] (7 ∷ 16 ∷ []) (junk 3) ≡ result_of (SortTable 0) ((0 ∷ 0 ∷ 0 ∷ []) ∷ [])
unfolding first build sort_good all
case-28 = refl

case-17 : source_widths_with_sorts new_scale (2 ∷ []) [] (7 ∷ 16 ∷ []) (junk 3) ≡ result_of (BadBit 0 1) ((0 ∷ 0 ∷ 0 ∷ []) ∷ [])
unfolding first build sort_good all
case-17 = refl

-- "An array not listed makes its Select ill-formed (1)", and so does a cell width above 4,096
case-unlisted : source_widths_with_sorts new_scale [] [] [] (junk 3) ∷ source_widths_with_sorts new_scale [] [] (7 ∷ 16 ∷ 4097 ∷ []) (junk 3) ∷ []
    ≡ result_of (Ext 1) ((0 ∷ 0 ∷ 0 ∷ []) ∷ []) ∷ result_of (Ext 1) ((0 ∷ 0 ∷ 0 ∷ []) ∷ []) ∷ []
unfolding first build sort_good all
case-unlisted = refl
