-- What a Select's form promises to its walk.
-- Inner: contracts within the code cite it; no answer's definition does. Assumes nothing.
use Rattle.std.specs.Prelude.{ℕ, ◌+◌, ◌*◌, ◌<◌, List, length, get_or}
use Rattle.rows.specs.declared.Graph.TheVariants.{Source}
use Rattle.rows.specs.Row.{row_count}

-- the k pairs of a Select from s on lie in the side list, and their indices are rows
abbrev pub PairsWithin : List ℕ → List ℕ → ℕ → ℕ → Type 0
PairsWithin source eside s k = (l : ℕ) → l < k → (s + 2 * l + 1 < length eside) × (get_or eside (s + 2 * l) 0 < row_count Source source)
