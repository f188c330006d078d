-- What this layer promises upwards: the one statement that the crates above cite. Assumes nothing.
use Rattle.std.specs.Prelude.{ℕ, ◌+◌, ◌*◌, ◌-◌, ◌<◌, ◌≤◌, ◌≡◌, true, List, [], ◌∷◌, length, get_or}
use Rattle.sorts.specs.Sorts.{Sorts}
use Rattle.rows.specs.declared.Graph.{Graph}
use Rattle.rows.specs.declared.Node.{Node}
use Rattle.rows.specs.declared.Node.TheVariants.{Var, Const, Un, Bin, Extract, Extend, Ite, Select, Call, Unknown}
use Rattle.rows.specs.Row.{row_count, row_at}
use Rattle.rows.specs.Tags.{t_concat, t_not, is_bool}
use Rattle.rows.specs.Node.{node_of, operands}
use Rattle.rules.specs.Rule.{ceiling, bin_width}

-- every row of a list is below n
abbrev pub Below : ℕ → List ℕ → Type 0
Below n [] = Unit {0}
Below n (a ∷ more) = (a < n) × Below n more

-- pair l of a Select's side list, at s: it lies in the list; its index and its value are earlier rows of these widths
pub record PairFormed (iw cw : ℕ) (side : List ℕ) (width : ℕ → ℕ) (i s l : ℕ) : Type 0 where
  pub within : s + 2 * l + 1 < length side
  pub index-earlier : get_or side (s + 2 * l) 0 < i
  pub index-width : width (get_or side (s + 2 * l) 0) ≡ iw
  pub value-earlier : get_or side (s + 2 * l + 1) 0 < i
  pub value-width : width (get_or side (s + 2 * l + 1) 0) ≡ cw

-- argument l of a Call's side list, at s: it lies in the list and is an earlier row
pub record ArgFormed (side : List ℕ) (i s l : ℕ) : Type 0 where
  pub within : s + l < length side
  pub arg-earlier : get_or side (s + l) 0 < i

-- two operands: the width is the rule's; all but Concat take operands of one width, BoolAnd and BoolOr of one bit
pub record BinFormed (t a b w : ℕ) : Type 0 where
  pub width_is : w ≡ bin_width t a b
  pub even : (t ≡ t_concat → ⊥) → a ≡ b
  pub bits : is_bool t ≡ true → (a ≡ 1) × (b ≡ 1)

-- row i, a node of width w, follows its rule, where σ are the sorts of the arrays and `width` gives the width of each row
abbrev pub Follows : Sorts → ℕ → List ℕ → (ℕ → ℕ) → ℕ → Node → ℕ → Type 0
Follows σ nbits side width i (Var v) w = w ≡ v
Follows σ nbits side width i (Const s v) w = (w ≡ v) × (s + v ≤ nbits)
Follows σ nbits side width i (Un t a) w = (w ≡ width a) × (t ≡ t_not → width a ≡ 1)
Follows σ nbits side width i (Bin t a b) w = BinFormed t (width a) (width b) w
Follows σ nbits side width i (Extract high low a) w = (w ≡ high - low + 1) × (low ≤ high) × (high < width a)
Follows σ nbits side width i (Extend t a n) w = w ≡ width a + n
Follows σ nbits side width i (Ite c t e) w = (w ≡ width t) × (width t ≡ width e) × (width c ≡ 1)
Follows σ nbits side width i (Select array j s k) w =
    (w ≡ σ.cell array) × (width j ≡ σ.index array) ×
    ((l : ℕ) → l < k → PairFormed (σ.index array) (σ.cell array) side width i s l)
Follows σ nbits side width i (Call f v s k) w = (w ≡ v) × ((l : ℕ) → l < k → ArgFormed side i s l)
Follows σ nbits side width i Unknown w = ⊥

-- "Every width handed upward is therefore between 1 and 4,096, and whoever receives one may use it" (02, 2.8): a number, and each of a list
pub record IsWidth (w : ℕ) : Type 0 where
  pub positive : 0 < w
  pub within : w ≤ ceiling

abbrev pub AreWidths : List ℕ → Type 0
AreWidths ws = (i : ℕ) → i < length ws → IsWidth (get_or ws i 0)

-- row i: its operands are earlier rows, its width is one and follows its rule
pub record RowFormed (σ : Sorts) (nbits : ℕ) (side : List ℕ) (width : ℕ → ℕ) (i : ℕ) (node : Node) : Type 0 where
  pub earlier : Below i (operands node)
  pub is-width : IsWidth (width i)
  pub follows : Follows σ nbits side width i node (width i)

-- every row of a graph, with a list of widths
abbrev pub WellFormed : Sorts → Graph → ℕ → List ℕ → List ℕ → List ℕ → Type 0
WellFormed σ graph nbits side g ws =
    (i : ℕ) → i < row_count graph g → RowFormed σ nbits side (λ a. get_or ws a 0) i (node_of (row_at graph g i))
