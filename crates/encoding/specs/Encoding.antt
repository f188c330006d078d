-- When an encoding is good (01, 'Rows' and the refusals 16 and 17). Assumes nothing.
use Rattle.std.specs.Prelude.{ℕ, Bool, true, false, cond, not, List, eqb, ltb, length, get_or}
use Rattle.lists.specs.First.{first}
use Rattle.rows.specs.declared.Graph.{Graph}
use Rattle.rows.specs.declared.Graph.TheVariants.{Source, Target}
use Rattle.rows.specs.Row.{row_count, row_at}
use Rattle.rows.specs.Tags.{t_var, t_extract, t_ite, t_select, is_un, either}

-- tags 0 to 36 in a target, 0 to 38 in a source
abbrev pub tag_count : Graph → ℕ
tag_count Source = 39
tag_count Target = 37

-- how many fields a tag uses; they come first
abbrev pub field_count : ℕ → ℕ
field_count t = cond (ltb t t_select) (cond (eqb t t_var) 1 (cond (is_un t) 1 (cond (either t t_extract t_ite) 3 2))) 4

-- "Fields that a tag doesn't use are 0": with n fields in use, field k (counted from 1) is used or 0
abbrev pub field_good : ℕ → ℕ → ℕ → Bool
field_good n k field = cond (ltb n k) (eqb field 0) true

-- the fields behind the first, which every tag uses
abbrev pub fields_good : ℕ → ℕ → ℕ → ℕ → Bool
fields_good n f2 f3 f4 = cond (field_good n 2 f2) (cond (field_good n 3 f3) (field_good n 4 f4) false) false

-- 16: "unknown tag or unused field not 0"
abbrev pub row_good : Graph → List ℕ → Bool
row_good graph r =
    cond (ltb (get_or r 0 0) (tag_count graph)) (fields_good (field_count (get_or r 0 0)) (get_or r 2 0) (get_or r 3 0) (get_or r 4 0)) false

abbrev pub row_bad : Graph → List ℕ → ℕ → Bool
row_bad graph g i = not (row_good graph (row_at graph g i))

-- the first bad row, or the number of rows
abbrev pub bad_row : Graph → List ℕ → ℕ
bad_row graph g = first (row_bad graph g) (row_count graph g)

-- 17: "byte above 1"
abbrev pub bit_bad : List ℕ → ℕ → Bool
bit_bad bits k = ltb 1 (get_or bits k 0)

-- the first bad bit, or the number of bits
abbrev pub bad_bit : List ℕ → ℕ
bad_bit bits = first (bit_bad bits) (length bits)
