-- Values of small sources, computed: the newest store that matches counts, else the array; a call at its arguments. Assumes nothing.
use Prim.Native.Nat.{ℕ, ◌+◌, ◌%◌}
use mathlib.Core.Path.{◌≡◌, refl}
use mathlib.Core.List.{List, [], ◌∷◌}
use lib.ListN.{get_or, length}
use Rattle.lists.specs.First.{first}
use Rattle.lists.specs.Build.{build}
use Rattle.lists.specs.Trace.{tabulate}
use Rattle.sorts.specs.Sorts.{second_edition, plain, sorts_of}
use Rattle.value.specs.Val.{val, nat, arg}
use Rattle.value.specs.Operate.{operate}
use Rattle.meaning.specs.Meaning.{Interpretation, source_values, stored}

abbrev s5 : ℕ → ℕ → ℕ → ℕ → ℕ → List ℕ → List ℕ
s5 t a b c d rest = t ∷ a ∷ b ∷ c ∷ d ∷ rest

-- array 7 holds the index plus one; function 3 adds its first argument and the number of arguments
abbrev model : List ℕ → Interpretation
model words =
    record {
      variable = λ i. get_or words i 0;
      array = λ a x. (x + 1) % 256;
      function = λ f w vs. (nat (arg vs 0) + length vs) % 256;
    }

-- Var(32), Var(8), Var(8); Select(7,0) bare, through the pairs (0,1),(0,2), and Call(3,8) of row 1 and of nothing
some-source : source_values plain (s5 0 32 0 0 0 (s5 0 8 0 0 0 (s5 0 8 0 0 0 (s5 37 7 0 0 0 (s5 37 7 0 0 2 (s5 38 3 8 1 1 (s5 38 3 8 9 0 []))))))) []
    (0 ∷ 1 ∷ 0 ∷ 2 ∷ []) (model (5 ∷ 40 ∷ 50 ∷ [])) 7
    ≡ val 32 5 ∷ val 8 40 ∷ val 8 50 ∷ val 8 6 ∷ val 8 40 ∷ val 8 41 ∷ val 8 0 ∷ []
unfolding build operate stored tabulate
some-source = refl

-- a pair whose index differs is passed over: Var(32) twice, Var(8), Select(7,1) through the pair (0,2)
passed_over : source_values plain (s5 0 32 0 0 0 (s5 0 32 0 0 0 (s5 0 8 0 0 0 (s5 37 7 1 0 1 [])))) [] (0 ∷ 2 ∷ []) (model (5 ∷ 6 ∷ 50 ∷ [])) 4
    ≡ val 32 5 ∷ val 32 6 ∷ val 8 50 ∷ val 8 7 ∷ []
unfolding build operate stored tabulate
passed_over = refl

-- "The new scale has 16-bit addresses and 16-bit cells": array 7 beside array 9 of three bits; a Select has its own array's cell width
two-shapes : source_values (sorts_of (second_edition (7 ∷ 16 ∷ 16 ∷ 9 ∷ 2 ∷ 3 ∷ [])))
    (s5 0 16 0 0 0 (s5 0 2 0 0 0 (s5 37 7 0 0 0 (s5 37 9 1 0 0 []))))
    [] [] (model (5 ∷ 1 ∷ [])) 4
    ≡ val 16 5 ∷ val 2 1 ∷ val 16 6 ∷ val 3 2 ∷ []
unfolding build operate stored tabulate first
two-shapes = refl
