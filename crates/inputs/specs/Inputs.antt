-- The words given for a target's variables (01, 'Operations and what they refuse'): "one word given and one written a row; words at other
-- rows than Var are ignored". Assumes nothing.
use Rattle.std.specs.Prelude.{ℕ, ◌^◌, Bool, false, cond, not, List, eqb, ltb, length, get_or}
use Rattle.answers.specs.Answer.{Answer}
use Rattle.answers.specs.Answer.{Accepted, TooWide, ValueCount, ValueRange}
use Rattle.lists.specs.First.{first}
use Rattle.rows.specs.declared.Graph.TheVariants.{Target}
use Rattle.rows.specs.Row.{row_count, row_at}
use Rattle.rows.specs.Tags.{t_var}

-- 21: "first row above 64"
abbrev pub row_wide : List ℕ → ℕ → Bool
row_wide ws i = ltb 64 (get_or ws i 0)

abbrev pub wide_row : List ℕ → ℕ → ℕ
wide_row ws n = first (row_wide ws) n

-- 23: a Var row whose word does not fit: "a variable's value fits when its highest one bit stands below the width"
abbrev pub word_bad : List ℕ → List ℕ → ℕ → Bool
word_bad g given i = cond (eqb (get_or (row_at Target g i) 0 0) t_var) (not (ltb (get_or given i 0) (2 ^ get_or (row_at Target g i) 1 0))) false

abbrev pub bad_word : List ℕ → List ℕ → ℕ
bad_word g given = first (word_bad g given) (row_count Target g)

-- "21 TooWide (first row above 64); 22 ValueCount (expected, found); 23 ValueRange (row)" of a well-formed target
abbrev pub given_answer : List ℕ → List ℕ → List ℕ → Answer
given_answer g ws given =
    let n = row_count Target g in
    cond (ltb (wide_row ws n) n) (TooWide (wide_row ws n) 0)
    (cond (eqb (length given) n) (cond (ltb (bad_word g given) n) (ValueRange (bad_word g given)) Accepted) (ValueCount n (length given)))
