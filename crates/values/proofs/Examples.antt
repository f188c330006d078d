-- The operation's definition computed: 01's marked case 12, and a refusal of each of its own numbers. Assumes nothing.
use Prim.Native.Nat.{ℕ}
use mathlib.Core.Path.{◌≡◌, refl}
use mathlib.Core.List.{List, [], ◌∷◌}
use Rattle.answers.specs.Answer.{Accepted, Core, WorkShort, TooWide, ValueCount, ValueRange}
use Rattle.bv.specs.Bv.{rotate_right}
use Rattle.lists.specs.First.{first}
use Rattle.lists.specs.Build.{build}
use Rattle.value.specs.Operate.{operate}
use Rattle.answers.specs.Result.{result_of}
use Rattle.values.specs.Values.{values}

abbrev t4 : ℕ → ℕ → ℕ → ℕ → List ℕ → List ℕ
t4 t a b c rest = t ∷ a ∷ b ∷ c ∷ rest

-- two variables of width 8 and an operator on them
abbrev two : ℕ → List ℕ
two t = t4 0 8 0 0 (t4 0 8 0 0 (t4 t 0 1 0 []))

case-12-sdiv : values (two 35) [] (128 ∷ 255 ∷ 7 ∷ []) (9 ∷ 9 ∷ 9 ∷ []) (9 ∷ 9 ∷ 9 ∷ 9 ∷ [])
    ≡ result_of Accepted ((8 ∷ 8 ∷ 8 ∷ []) ∷ (128 ∷ 255 ∷ 128 ∷ 0 ∷ []) ∷ [])
unfolding first build operate
case-12-sdiv = refl

case-12-rotr : values (two 13) [] (1 ∷ 9 ∷ 7 ∷ []) (9 ∷ 9 ∷ 9 ∷ []) (9 ∷ 9 ∷ 9 ∷ []) ≡ result_of Accepted ((8 ∷ 8 ∷ 8 ∷ []) ∷ (1 ∷ 9 ∷ 128 ∷ []) ∷ [])
unfolding first build operate rotate_right
case-12-rotr = refl

short : values (two 2) [] (1 ∷ 9 ∷ 7 ∷ []) (9 ∷ 9 ∷ 9 ∷ []) (9 ∷ 9 ∷ []) ≡ result_of (WorkShort 2) ((9 ∷ 9 ∷ 9 ∷ []) ∷ (9 ∷ 9 ∷ []) ∷ [])
short = refl

too_wide : values (t4 0 65 0 0 []) [] [] (9 ∷ []) (9 ∷ []) ≡ result_of (TooWide 0 0) ((0 ∷ []) ∷ (0 ∷ []) ∷ [])
unfolding first build
too_wide = refl

-- the ceiling (02, 2.8) goes before 21
at-ceiling : values (t4 0 4096 0 0 []) [] [] (9 ∷ []) (9 ∷ []) ≡ result_of (TooWide 0 0) ((0 ∷ []) ∷ (0 ∷ []) ∷ [])
unfolding first build
at-ceiling = refl

past-ceiling : values (t4 0 65 0 0 (t4 16 0 4032 0 [])) [] [] (9 ∷ 9 ∷ []) (9 ∷ 9 ∷ []) ≡ result_of (Core 1) ((0 ∷ 0 ∷ []) ∷ (0 ∷ 0 ∷ []) ∷ [])
unfolding first build
past-ceiling = refl

count : values (two 2) [] (1 ∷ 9 ∷ []) (9 ∷ 9 ∷ 9 ∷ []) (9 ∷ 9 ∷ 9 ∷ []) ≡ result_of (ValueCount 3 2) ((0 ∷ 0 ∷ 0 ∷ []) ∷ (0 ∷ 0 ∷ 0 ∷ []) ∷ [])
unfolding first build
count = refl

range : values (two 2) [] (1 ∷ 256 ∷ 7 ∷ []) (9 ∷ 9 ∷ 9 ∷ []) (9 ∷ 9 ∷ 9 ∷ []) ≡ result_of (ValueRange 1) ((0 ∷ 0 ∷ 0 ∷ []) ∷ (0 ∷ 0 ∷ 0 ∷ []) ∷ [])
unfolding first build
range = refl
