-- What the operators of two operands ask for: a tag of that shape, and the rule on the widths.
-- Inner: contracts within the code cite it; no answer's definition does. Assumes nothing.
use Rattle.std.specs.Prelude.{ℕ, ◌≤◌, ◌+◌, ◌≡◌}
use Rattle.rows.specs.Tags.{t_concat}
use Rattle.rows.specs.Decoded.{BinTag}

pub record BinReady (t u v : ℕ) : Type 0 where
  pub tag : BinTag t
  pub even : (t ≡ t_concat → ⊥) → u ≡ v
  pub sum : t ≡ t_concat → u + v ≤ 64
