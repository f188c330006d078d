-- Source rows and their images (01, 'Rows' and 'How a row is matched'). Assumes nothing.
use Rattle.std.specs.Prelude.{ℕ, ◌+◌, Bool, not, List, [], ◌∷◌, eqb, get_or}
use Rattle.lists.specs.Tests.{all, agree}
use Rattle.rows.specs.declared.Graph.TheVariants.{Target}
use Rattle.rows.specs.declared.Node.{Node}
use Rattle.rows.specs.declared.Node.TheVariants.{Var, Const, Un, Bin, Extract, Extend, Ite, Select, Call, Unknown}
use Rattle.rows.specs.Row.{MAX, row_at}
use Rattle.rows.specs.Tags.{t_var, t_const, t_extract, t_ite, t_select, t_call}
use Rattle.rows.specs.Node.{row_eq}

-- "the target row that the word names is its image"; past the map no row has one
abbrev pub map_at : List ℕ → ℕ → ℕ
map_at map a = get_or map a MAX

-- the row with its operands mapped, "operands in the same order"
abbrev pub map_node : List ℕ → Node → Node
map_node map (Var w) = Var w
map_node map (Const s w) = Const s w
map_node map (Un t a) = Un t (map_at map a)
map_node map (Bin t a b) = Bin t (map_at map a) (map_at map b)
map_node map (Extract h l a) = Extract h l (map_at map a)
map_node map (Extend t a n) = Extend t (map_at map a) n
map_node map (Ite c t e) = Ite (map_at map c) (map_at map t) (map_at map e)
map_node map (Select a j s k) = Select a j s k
map_node map (Call f w s k) = Call f w s k
map_node map Unknown = Unknown

-- the five words of a node: "tag and four fields", "Fields that a tag doesn't use are 0"
abbrev pub row_of : Node → List ℕ
row_of (Var w) = t_var ∷ w ∷ 0 ∷ 0 ∷ 0 ∷ []
row_of (Const s w) = t_const ∷ s ∷ w ∷ 0 ∷ 0 ∷ []
row_of (Un t a) = t ∷ a ∷ 0 ∷ 0 ∷ 0 ∷ []
row_of (Bin t a b) = t ∷ a ∷ b ∷ 0 ∷ 0 ∷ []
row_of (Extract h l a) = t_extract ∷ h ∷ l ∷ a ∷ 0 ∷ []
row_of (Extend t a n) = t ∷ a ∷ n ∷ 0 ∷ 0 ∷ []
row_of (Ite c t e) = t_ite ∷ c ∷ t ∷ e ∷ 0 ∷ []
row_of (Select a j s k) = t_select ∷ a ∷ j ∷ s ∷ k ∷ []
row_of (Call f w s k) = t_call ∷ f ∷ w ∷ s ∷ k ∷ []
row_of Unknown = 39 ∷ 0 ∷ 0 ∷ 0 ∷ 0 ∷ []

-- a row is that node
unfoldable pub row_is : List ℕ → Node → Bool
row_is r node = row_eq r (row_of node)

-- a row's tag and fields
abbrev pub tag_at : List ℕ → ℕ → ℕ
tag_at target r = get_or (row_at Target target r) 0 0

abbrev pub field_at : List ℕ → ℕ → ℕ → ℕ
field_at target r k = get_or (row_at Target target r) k 0

-- two rows are constants
unfoldable pub both_const : List ℕ → List ℕ → Bool
both_const r q = all (eqb (get_or r 0 0) t_const ∷ eqb (get_or q 0 0) t_const ∷ [])

-- two rows are constants of the "same width and bits", each with its graph's bits
unfoldable pub same_const : List ℕ → List ℕ → List ℕ → List ℕ → Bool
same_const rbits r qbits q =
    all
    (both_const r q
    ∷ eqb (get_or r 2 0) (get_or q 2 0)
    ∷ agree (λ k. get_or rbits (get_or r 1 0 + k) 0) (λ k. get_or qbits (get_or q 1 0 + k) 0) (get_or r 2 0)
    ∷ [])

-- "two unequal constant indices"
unfoldable pub unequal_const : List ℕ → List ℕ → List ℕ → Bool
unequal_const bits r q = all (both_const r q ∷ not (same_const bits r bits q) ∷ [])
