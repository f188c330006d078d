-- Sequences: a state before each step, and the first values of a function. Assumes nothing.
use Rattle.std.specs.Prelude.{ℕ, zero, suc, List, [], ◌∷◌, set}

-- the state before step n: s before step 0, and each step makes the next
unfoldable pub trace : {A : Type 0} → (ℕ → A → A) → A → ℕ → A
trace next s zero = s
trace next s (suc n) = next n (trace next s n)

-- a list after n marks: mark k puts a number at its place
abbrev pub marks : (ℕ → ℕ) → (ℕ → ℕ) → List ℕ → ℕ → List ℕ
marks place number l n = trace (λ k more. set more (place k) (number k)) l n

-- f 0, f 1, .., n of them
unfoldable pub tabulate : {A : Type 0} → (ℕ → A) → ℕ → List A
tabulate f zero = []
tabulate f (suc n) = f 0 ∷ tabulate (λ k. f (suc k)) n
