-- A list built in order, each element from its place and the elements before it. Assumes nothing.
use Rattle.std.specs.Prelude.{ℕ, zero, suc, List, [], ◌∷◌, ◌++◌}

unfoldable pub build : {A : Type 0} → (ℕ → List A → A) → ℕ → List A
build f zero = []
build f (suc n) = build f n ++ (f n (build f n) ∷ [])
