-- Graphs as words (01, 'Rows'). Assumes nothing.
use Rattle.std.specs.Prelude.{ℕ, ◌+◌, ◌*◌, ◌/◌, ◌%◌, Bool, not, List, [], ◌∷◌, eqb, length, get_or}
use Rattle.rows.specs.declared.Graph.{Graph}
use Rattle.rows.specs.declared.Graph.TheVariants.{Source, Target}

-- "MAX is 2^64-1"
abbrev pub MAX : ℕ
MAX = 18446744073709551615

-- "place 1 source, 2 target", "detail 1 or 2 for the graph"
abbrev pub graph_number : Graph → ℕ
graph_number Source = 1
graph_number Target = 2

-- "A target row is four words .. A source row has five": how many whole rows a list of words holds
abbrev pub row_count : Graph → List ℕ → ℕ
row_count Source g = length g / 5
row_count Target g = length g / 4

-- "a graph's word count is no multiple of its row"
abbrev pub ragged : Graph → List ℕ → Bool
ragged Source g = not (eqb (length g % 5) 0)
ragged Target g = not (eqb (length g % 4) 0)

-- "A row travels as its five words, a target row with a 0 at the end"
abbrev pub row_at : Graph → List ℕ → ℕ → List ℕ
row_at Source g i =
    get_or g (i * 5) 0 ∷ get_or g (i * 5 + 1) 0 ∷ get_or g (i * 5 + 2) 0 ∷ get_or g (i * 5 + 3) 0 ∷ get_or g (i * 5 + 4) 0 ∷ []
row_at Target g i = get_or g (i * 4) 0 ∷ get_or g (i * 4 + 1) 0 ∷ get_or g (i * 4 + 2) 0 ∷ get_or g (i * 4 + 3) 0 ∷ 0 ∷ []
