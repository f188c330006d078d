-- What the rules and the sources give at each code, and what a line of three codes gives: each as a chain of tests on the codes. So the functions of
-- the width rules answer on codes, those that no line has among them, as on the variants that these name. Assumes nothing.
use Prim.Native.Nat.{ℕ, zero, suc, ◌+◌, ◌-◌, ◌<◌}
use mathlib.Core.Path.{◌≡◌, refl}
use mathlib.Core.Bool.{false, cond}
use mathlib.Core.List.{List}
use native.Mathlib.Omega.{arith}
use borrow.Author.Tests.{le-ltb, ne_eqb}
use lib.Dec.{eqb, ltb}
use Rattle.sorts.specs.Sorts.{Sorts}
use Rattle.rules.specs.declared.lines.Join.{Join}
use Rattle.rules.specs.declared.lines.Join.TheVariants as join
use Rattle.rules.specs.declared.lines.WidthFrom.{WidthFrom}
use Rattle.rules.specs.Rule.{same}
use Rattle.rules.specs.Table.{join1, from1, join_part, in_part, from_part, from_cell, join2, from2, join3, from3, from_field1, from_field2}
use Rattle.rules.specs.Table.{row_any, row_in_bits, row_arguments, row0, row_one, row_extended, row1, row_chain, row_part, row2, row3}
use Rattle.rules.specs.Table.{line, line_width}
use Rattle.rules.specs.Codes.{operands_of, join_of, source_of}

-- codes 0 to 8 one by one, then all others
by-code : (P : ℕ → Type 0) → P 0 → P 1 → P 2 → P 3 → P 4 → P 5 → P 6 → P 7 → P 8
    → ((c : ℕ) → P (suc (suc (suc (suc (suc (suc (suc (suc (suc c)))))))))) → (c : ℕ) → P c
by-code P a b c d e f g h i j zero = a
by-code P a b c d e f g h i j (suc zero) = b
by-code P a b c d e f g h i j (suc (suc zero)) = c
by-code P a b c d e f g h i j (suc (suc (suc zero))) = d
by-code P a b c d e f g h i j (suc (suc (suc (suc zero)))) = e
by-code P a b c d e f g h i j (suc (suc (suc (suc (suc zero))))) = f
by-code P a b c d e f g h i j (suc (suc (suc (suc (suc (suc zero)))))) = g
by-code P a b c d e f g h i j (suc (suc (suc (suc (suc (suc (suc zero))))))) = h
by-code P a b c d e f g h i j (suc (suc (suc (suc (suc (suc (suc (suc zero)))))))) = i
by-code P a b c d e f g h i j (suc (suc (suc (suc (suc (suc (suc (suc (suc n))))))))) = j n

-- a code past them is none of them
past : (n k : ℕ) → k < 9 → eqb (suc (suc (suc (suc (suc (suc (suc (suc (suc n))))))))) k ≡ false
past n k h = ne_eqb (suc (suc (suc (suc (suc (suc (suc (suc (suc n))))))))) k (λ e. omega (arith, e, h))

past-two : (n : ℕ) → ltb (suc (suc (suc (suc (suc (suc (suc (suc (suc n))))))))) 2 ≡ false
past-two n = le-ltb (suc (suc (suc (suc (suc (suc (suc (suc (suc n))))))))) 2 (omega arith)

-- rules: 0 any, 1 equal, 3 one bit, 4 part, 5 choice
pub join1-code : (c : ℕ) (a w : ℕ) → join1 (join_of c) a w ≡ cond (eqb c 0) w (cond (eqb c 3) (same a 1 w) 0)
join1-code c a w =
    by-code
    (λ c. join1 (join_of c) a w ≡ cond (eqb c 0) w (cond (eqb c 3) (same a 1 w) 0))
    refl refl refl refl refl refl refl refl refl (λ n. rw (past n 0 (omega arith), past n 3 (omega arith))) c

pub join2-code : (c : ℕ) (a b w : ℕ)
    → join2 (join_of c) a b w
    ≡ cond (eqb c 0) w (cond (eqb c 1) (same a b w) (cond (eqb c 3) (same a 1 (same b 1 w)) 0))
join2-code c a b w =
    by-code
    (λ c. join2 (join_of c) a b w
    ≡ cond (eqb c 0) w (cond (eqb c 1) (same a b w) (cond (eqb c 3) (same a 1 (same b 1 w)) 0)))
    refl refl refl refl refl refl refl refl refl (λ n. rw (past n 0 (omega arith), past n 1 (omega arith), past n 3 (omega arith))) c

pub join3-code : (c : ℕ) (a b d w : ℕ) → join3 (join_of c) a b d w ≡ cond (eqb c 5) (same a 1 (same b d w)) 0
join3-code c a b d w =
    by-code
    (λ c. join3 (join_of c) a b d w ≡ cond (eqb c 5) (same a 1 (same b d w)) 0)
    refl refl refl refl refl refl refl refl refl (λ n. rw (past n 5 (omega arith))) c

pub join_part-code : (c : ℕ) (h l a w : ℕ) → join_part (join_of c) h l a w ≡ cond (eqb c 4) (in_part h l a w) 0
join_part-code c h l a w =
    by-code
    (λ c. join_part (join_of c) h l a w ≡ cond (eqb c 4) (in_part h l a w) 0)
    refl refl refl refl refl refl refl refl refl (λ n. rw (past n 4 (omega arith))) c

-- sources: 0 one bit, 1 the first width, 2 the second, 3 the sum, 5 and 6 these fields, 7 a part, 8 a cell
pub from1-code : (c : ℕ) (a : ℕ) → from1 (source_of c) a ≡ cond (eqb c 0) 1 (cond (eqb c 1) a 0)
from1-code c a =
    by-code
    (λ c. from1 (source_of c) a ≡ cond (eqb c 0) 1 (cond (eqb c 1) a 0))
    refl refl refl refl refl refl refl refl refl (λ n. rw (past n 0 (omega arith), past n 1 (omega arith))) c

pub from2-code : (c : ℕ) (a b : ℕ) → from2 (source_of c) a b ≡ cond (eqb c 3) (a + b) (from1 (source_of c) a)
from2-code c a b =
    by-code
    (λ c. from2 (source_of c) a b ≡ cond (eqb c 3) (a + b) (from1 (source_of c) a))
    refl refl refl refl refl refl refl refl refl (λ n. rw (past n 3 (omega arith))) c

pub from3-code : (c : ℕ) (b : ℕ) → from3 (source_of c) b ≡ cond (eqb c 2) b 0
from3-code c b =
    by-code
    (λ c. from3 (source_of c) b ≡ cond (eqb c 2) b 0)
    refl refl refl refl refl refl refl refl refl (λ n. rw (past n 2 (omega arith))) c

pub from_part-code : (c : ℕ) (h l : ℕ) → from_part (source_of c) h l ≡ cond (eqb c 7) (h - l + 1) 0
from_part-code c h l =
    by-code
    (λ c. from_part (source_of c) h l ≡ cond (eqb c 7) (h - l + 1) 0)
    refl refl refl refl refl refl refl refl refl (λ n. rw (past n 7 (omega arith))) c

pub from_cell-code : (c : ℕ) (w : ℕ) → from_cell (source_of c) w ≡ cond (eqb c 8) w 0
from_cell-code c w =
    by-code
    (λ c. from_cell (source_of c) w ≡ cond (eqb c 8) w 0)
    refl refl refl refl refl refl refl refl refl (λ n. rw (past n 8 (omega arith))) c

pub from_field1-code : (c : ℕ) (f : ℕ) → from_field1 (source_of c) f ≡ cond (eqb c 5) f 0
from_field1-code c f =
    by-code
    (λ c. from_field1 (source_of c) f ≡ cond (eqb c 5) f 0)
    refl refl refl refl refl refl refl refl refl (λ n. rw (past n 5 (omega arith))) c

pub from_field2-code : (c : ℕ) (f : ℕ) → from_field2 (source_of c) f ≡ cond (eqb c 6) f 0
from_field2-code c f =
    by-code
    (λ c. from_field2 (source_of c) f ≡ cond (eqb c 6) f 0)
    refl refl refl refl refl refl refl refl refl (λ n. rw (past n 6 (omega arith))) c

-- rows: by the rule without an operand (0, 2, 7), by the source with one (4 extended), by the rule of a chain (6)
pub row0-code : (c : ℕ) (from : WidthFrom) (n : ℕ) (side ws : List ℕ) (x y z u : ℕ)
    → row0 (join_of c) from n side ws x y z u
    ≡ cond (eqb c 0) (row_any from x y z u) (cond (eqb c 2) (row_in_bits from n x y z u) (cond (eqb c 7) (row_arguments from side ws y z u) 0))
row0-code c from n side ws x y z u =
    by-code
    (λ c. row0 (join_of c) from n side ws x y z u
    ≡ cond (eqb c 0) (row_any from x y z u) (cond (eqb c 2) (row_in_bits from n x y z u) (cond (eqb c 7) (row_arguments from side ws y z u) 0)))
    refl refl refl refl refl refl refl refl refl (λ n. rw (past n 0 (omega arith), past n 2 (omega arith), past n 7 (omega arith))) c

pub row1-code : (c : ℕ) (rule : Join) (ws : List ℕ) (x y z u : ℕ)
    → row1 rule (source_of c) ws x y z u
    ≡ cond (eqb c 4) (row_extended rule ws x y z u) (row_one rule (source_of c) ws x y z u)
row1-code c rule ws x y z u =
    by-code
    (λ c. row1 rule (source_of c) ws x y z u
    ≡ cond (eqb c 4) (row_extended rule ws x y z u) (row_one rule (source_of c) ws x y z u))
    refl refl refl refl refl refl refl refl refl (λ n. rw (past n 4 (omega arith))) c

pub row_chain-code : (c : ℕ) (from : WidthFrom) (iw cw : ℕ) (side ws : List ℕ) (x s k : ℕ)
    → row_chain (join_of c) from iw cw side ws x s k
    ≡ cond (eqb c 6) (row_chain join.Chain from iw cw side ws x s k) 0
row_chain-code c from iw cw side ws x s k =
    by-code
    (λ c. row_chain (join_of c) from iw cw side ws x s k
    ≡ cond (eqb c 6) (row_chain join.Chain from iw cw side ws x s k) 0)
    refl refl refl refl refl refl refl refl refl (λ n. rw (past n 6 (omega arith))) c

-- a line: 0 without an operand, 1 a chain, 2 one in field 1, 3 one in field 3, 4 two, any other code three
pub line-code : (c : ℕ) (rule : Join) (from : WidthFrom) (σ : Sorts) (n : ℕ) (side ws : List ℕ) (x y z u : ℕ)
    → line_width σ n side ws (line (operands_of c) rule from) x y z u
    ≡ cond (ltb c 2)
    (cond (eqb c 0) (row0 rule from n side ws x y z u) (row_chain rule from (σ.index x) (σ.cell x) side ws y z u))
    (cond (eqb c 3) (row_part rule from ws x y z u)
    (cond (eqb c 2) (row1 rule from ws x y z u) (cond (eqb c 4) (row2 rule from ws x y z u) (row3 rule from ws x y z u))))
line-code c rule from σ n side ws x y z u =
    by-code
    (λ c. line_width σ n side ws (line (operands_of c) rule from) x y z u
    ≡ cond (ltb c 2)
    (cond (eqb c 0) (row0 rule from n side ws x y z u) (row_chain rule from (σ.index x) (σ.cell x) side ws y z u))
    (cond (eqb c 3) (row_part rule from ws x y z u)
    (cond (eqb c 2) (row1 rule from ws x y z u) (cond (eqb c 4) (row2 rule from ws x y z u) (row3 rule from ws x y z u)))))
    refl refl refl refl refl refl refl refl refl (λ n. rw (past-two n, past n 3 (omega arith), past n 2 (omega arith), past n 4 (omega arith))) c
