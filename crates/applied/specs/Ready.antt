-- What a Call's form promises to the comparison of its arguments.
-- Inner: contracts within the code cite it; no answer's definition does. Assumes nothing.
use Rattle.std.specs.Prelude.{ℕ, ◌+◌, ◌<◌, List, length}

-- the k arguments of a Call from s on lie in the side list
abbrev pub ArgsWithin : List ℕ → ℕ → ℕ → Type 0
ArgsWithin eside s k = (l : ℕ) → l < k → s + l < length eside
