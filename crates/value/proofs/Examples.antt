-- Values of small target graphs, computed. Assumes nothing.
use Prim.Native.Nat.{ℕ}
use mathlib.Core.Path.{◌≡◌, refl}
use mathlib.Core.List.{List, [], ◌∷◌}
use lib.ListN.{get_or}
use Rattle.lists.specs.Build.{build}
use Rattle.bv.specs.Bits.{of_bits}
use Rattle.value.specs.Val.{val}
use Rattle.value.specs.Operate.{operate}
use Rattle.value.specs.Graph.{values_to}

abbrev t4 : ℕ → ℕ → ℕ → ℕ → List ℕ → List ℕ
t4 t a b c rest = t ∷ a ∷ b ∷ c ∷ rest

-- Var(8), Const 5 of width 8, Add, Sub, Eq(2,0), Ite, Concat, Extract(11,4), Not
some-rows : values_to (1 ∷ 0 ∷ 1 ∷ 0 ∷ 0 ∷ 0 ∷ 0 ∷ 0 ∷ []) (λ i. get_or (254 ∷ []) i 0)
    (t4 0 8 0 0 (t4 1 0 8 0 (t4 2 0 1 0 (t4 3 1 0 0 (t4 19 2 0 0 (t4 18 4 0 1 (t4 15 0 1 0 (t4 14 11 4 6 (t4 29 4 0 0 []))))))))) 9
    ≡ val 8 254 ∷ val 8 5 ∷ val 8 3 ∷ val 8 7 ∷ val 1 0 ∷ val 8 5 ∷ val 16 65029 ∷ val 8 224 ∷ val 1 1 ∷ []
unfolding build of_bits operate
some-rows = refl
