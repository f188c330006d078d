-- The parts of a congruence root (01, 'How a row is matched': "BoolOr(Not(Eq(indices)), Eq(variables))").
-- Inner: contracts within the code cite it; no answer's definition does. Assumes nothing.
use Rattle.std.specs.Prelude.{ℕ, Bool, cond, List, [], ◌∷◌, eqb, ltb, Option, Some, None}
use Rattle.lists.specs.Tests.{all}
use Rattle.rows.specs.declared.Graph.TheVariants.{Target}
use Rattle.rows.specs.Row.{row_count}
use Rattle.rows.specs.Tags.{t_not, t_bool_or}
use Rattle.lowering.specs.Images.{tag_at, field_at}
use Rattle.lowering.specs.Matching.{is_eq}

-- target row r is BoolOr(Not(some row), Eq(u, v))
unfoldable pub implies : List ℕ → ℕ → ℕ → ℕ → Bool
implies target u v r =
    all
    (ltb r (row_count Target target)
    ∷ eqb (tag_at target r) t_bool_or
    ∷ is_eq target u v (field_at target r 2)
    ∷ ltb (field_at target r 1) (row_count Target target)
    ∷ eqb (tag_at target (field_at target r 1)) t_not
    ∷ [])

-- the row under its Not, where it is such a row
abbrev pub antecedent : List ℕ → ℕ → ℕ → ℕ → Option ℕ
antecedent target u v r = cond (implies target u v r) (Some (field_at target (field_at target r 1) 1)) None
