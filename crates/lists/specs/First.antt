-- The first number that passes a test. Assumes nothing.
use Rattle.std.specs.Prelude.{ℕ, zero, suc, Bool, cond, eqb}

-- the first number below n that passes the test, and n where none does
unfoldable pub first : (ℕ → Bool) → ℕ → ℕ
first p zero = 0
first p (suc n) = cond (p 0) 0 (suc (first (λ i. p (suc i)) n))

-- no number below n passes the test
abbrev pub none : (ℕ → Bool) → ℕ → Bool
none p n = eqb (first p n) n
