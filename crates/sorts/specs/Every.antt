-- One sort for all arrays.
-- Inner: contracts within the code cite it; no answer's definition does. Assumes nothing.
use Rattle.std.specs.Prelude.{ℕ}
use Rattle.sorts.specs.Sorts.{Sorts}

abbrev pub every : ℕ → ℕ → Sorts
every iw cw = record { index = λ array. iw; cell = λ array. cw }
