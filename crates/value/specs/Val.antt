-- Values of rows: a width and a number. Assumes nothing.
use Rattle.std.specs.Prelude.{ℕ, ◌<◌, ◌^◌, List, get_or}

pub data Val : Type 0 where
  val : ℕ → ℕ → Val

abbrev pub wid : Val → ℕ
wid (val w n) = w

abbrev pub nat : Val → ℕ
nat (val w n) = n

-- operand k, counted from 0
abbrev pub arg : List Val → ℕ → Val
arg vs k = get_or vs k (val 0 0)

-- the number lies below 2 ^ width
abbrev pub Fit : Val → Type 0
Fit v = nat v < 2 ^ wid v
