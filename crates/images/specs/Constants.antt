-- A row as a constant, where it is one: what the Rust's `ext_const` gives.
-- Inner: contracts within the code cite it; no answer's definition does. Assumes nothing.
use Rattle.std.specs.Prelude.{ℕ, cond, List, eqb, Option, Some, None, get_or}
use Rattle.rows.specs.Tags.{t_const}
use Rattle.images.specs.declared.Constant.{Constant}

abbrev pub constant : ℕ → ℕ → Constant
constant start width = record { start = start; width = width }

-- start and width of a Const row, nothing for any other
abbrev pub constant_of : List ℕ → Option Constant
constant_of r = cond (eqb (get_or r 0 0) t_const) (Some (constant (get_or r 1 0) (get_or r 2 0))) None
