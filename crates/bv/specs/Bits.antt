-- Numbers as bits, lowest first. Assumes nothing.
use Rattle.std.specs.Prelude.{ℕ, zero, suc, ◌+◌, ◌*◌, ◌/◌, ◌%◌, ◌^◌, Bool, true, false}

-- bit k of a number
abbrev pub bit : ℕ → ℕ → ℕ
bit x k = x / 2 ^ k % 2

-- the number with w given bits
unfoldable pub of_bits : ℕ → (ℕ → ℕ) → ℕ
of_bits zero f = 0
of_bits (suc w) f = f 0 + 2 * of_bits w (λ k. f (suc k))

-- a test as a bit
abbrev pub of_bool : Bool → ℕ
of_bool true = 1
of_bool false = 0
