-- Each line of the table is 01's rule for its tag: both sides are computed over the whole table, a number a tag, and are one list.
-- Assumes nothing.
use Prim.Native.Nat.{ℕ, zero, suc, ◌+◌, ◌<◌}
use mathlib.Core.Path.{◌≡◌, refl, sym, ap, ◌∙◌}
use mathlib.Core.Bool.{cond}
use mathlib.Core.List.{List, [], ◌∷◌}
use native.Mathlib.Nat.{not-suc-le-zero, le_of_suc-le-suc, add-zero, add-suc, suc-add, zero-add}
use lib.ListN.{length, get_or}
use Rattle.rows.specs.Node.{node_from, operands}
use Rattle.sorts.specs.Sorts.{Sorts}
use Rattle.encoding.specs.Encoding.{field_count, fields_good}
use Rattle.rules.specs.declared.lines.Line.{Line}
use Rattle.rules.specs.Rule.{capped, rule, earlier, node_width}
use Rattle.rules.specs.Table.{table, line_at, line_width, in_word}
use Rattle.rules.proofs.Rule.{capped-tested}

-- a number of each entry of a list and its place, counted from i
along : {A : Type 0} → (ℕ → A → ℕ) → ℕ → List A → List ℕ
along f i [] = []
along f i (x ∷ xs) = f i x ∷ along f (suc i) xs

along-at : {A : Type 0} (f : ℕ → A → ℕ) (d : A) (xs : List A) (i k : ℕ) → k < length xs → get_or (along f i xs) k 0 ≡ f (i + k) (get_or xs k d)
unfolding along
along-at f d [] i k h = absurd (not-suc-le-zero h)
along-at f d (x ∷ xs) i zero h = rw add-zero
along-at f d (x ∷ xs) i (suc k) h = along-at f d xs (suc i) k (le_of_suc-le-suc h) ∙ rw (add-suc, ← suc-add)

-- two numbers of each entry that make one list are one at each
along-same : {A : Type 0} (f g : ℕ → A → ℕ) (d : A) (xs : List A) → along f 0 xs ≡ along g 0 xs → (k : ℕ) → k < length xs
    → f k (get_or xs k d) ≡ g k (get_or xs k d)
along-same f g d xs e k h =
    rw zero-add at (sym (along-at f d xs 0 k h) ∙ ap (λ (l : List ℕ). get_or l k 0) e ∙ along-at g d xs 0 k h)

module _ (σ : Sorts) (nbits : ℕ) (side ws : List ℕ) (a b c d : ℕ) where
  by-line : ℕ → Line → ℕ
  by-line t l = line_width σ nbits side ws l a b c d

  by-rule : ℕ → Line → ℕ
  by-rule t l =
      let node = node_from t a b c d in
      cond (fields_good (field_count t) b c d) (cond (earlier (operands node) (length ws)) (in_word (rule σ nbits side ws node)) 0) 0

  -- the whole table: what its lines give is what the rules give
  whole : along by-line 0 table ≡ along by-rule 0 table
  unfolding along by-line by-rule
  whole = refl

  -- a line is its tag's rule, of rows whose unused fields are 0, within the ceiling
  pub line-rule : (t : ℕ) → t < 39
      → capped (line_width σ nbits side ws (line_at t) a b c d)
      ≡ cond (fields_good (field_count t) b c d) (node_width σ nbits side ws (node_from t a b c d)) 0
  unfolding by-line by-rule
  line-rule t h =
      let node = node_from t a b c d in
      ap capped (along-same by-line by-rule (line_at 39) table whole t h)
      ∙ capped-tested (fields_good (field_count t) b c d) (earlier (operands node) (length ws)) (rule σ nbits side ws node)
