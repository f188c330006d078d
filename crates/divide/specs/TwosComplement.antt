-- Words of width w as signed numbers, in two's complement, and back.
-- Inner: contracts within the code cite it; no answer's definition does. Assumes nothing.
use Rattle.std.specs.Prelude.{ℕ, ◌-◌, ◌%◌, ◌^◌, Bool, false, cond, eqb, ltb, ℤ, pos, negsuc, neg_ℤ}

-- a below 2 ^ (w - 1) is itself, else a - 2 ^ w
abbrev pub to_int : ℕ → ℕ → ℤ
to_int w a = cond (ltb a (2 ^ (w - 1))) (pos a) (neg_ℤ (pos (2 ^ w - a)))

-- z modulo 2 ^ w, of which negsuc n is -1 - n
abbrev pub of_int : ℕ → ℤ → ℕ
of_int w (pos n) = n % 2 ^ w
of_int w (negsuc n) = 2 ^ w - 1 - n % 2 ^ w

-- the one quotient that an i64 does not hold: at width 64, the least number by minus one
abbrev pub overflow : ℕ → ℕ → ℕ → Bool
overflow w a b = cond (eqb w 64) (cond (eqb a (2 ^ 63)) (eqb b (2 ^ 64 - 1)) false) false
