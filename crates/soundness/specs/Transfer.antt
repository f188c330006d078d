-- From an interpretation of the source to an assignment of the target, and back, along a lowering. What the lowering does not fix is taken from
-- a given assignment or interpretation. Assumes nothing.
use Rattle.std.specs.Prelude.{ℕ, Bool, true, false, cond, List, [], ◌∷◌, eqb, ltb, get_or}
use Rattle.lists.specs.First.{first}
use Rattle.lists.specs.Tests.{all}
use Rattle.lists.specs.Trace.{tabulate}
use Rattle.rows.specs.declared.Graph.TheVariants.{Source}
use Rattle.rows.specs.Row.{row_at}
use Rattle.rows.specs.Tags.{t_var}
use Rattle.value.specs.Val.{Val, val, nat}
use Rattle.meaning.specs.Meaning.{Interpretation}
use Rattle.lowering.specs.Images.{map_at, field_at}
use Rattle.lowering.specs.Tables.{read_count, read_var, read_array, read_index, call_count, call_var, call_function, arg_count, call_arg}
use Rattle.lowering.specs.Lowering.{Lowering, source_rows, target_rows}
use Rattle.soundness.specs.Sound.{value_of_source, value_of_target}

module _ (L : Lowering) where
  -- the first source row with image r, the first variable with image r, the entries with variable r
  abbrev pub origin : ℕ → ℕ
  origin r = first (λ i. eqb (map_at L.map i) r) (source_rows L)

  abbrev pub is_origin : ℕ → ℕ → Bool
  is_origin r i = all (eqb (get_or (row_at Source L.source.rows i) 0 0) t_var ∷ eqb (map_at L.map i) r ∷ [])

  abbrev pub var_origin : ℕ → ℕ
  var_origin r = first (is_origin r) (source_rows L)

  abbrev pub read_of : ℕ → ℕ
  read_of r = first (λ q. eqb (read_var L.reads q) r) (read_count L.reads)

  abbrev pub call_of : ℕ → ℕ
  call_of r = first (λ q. eqb (call_var L.calls q) r) (call_count L.calls)

  module _ (I : Interpretation) where
    -- the value of a source row with image r
    abbrev pub origin_value : ℕ → Val
    origin_value r = value_of_source L I (origin r)

    -- what an entry reads: its array at its index, its function at its arguments
    unfoldable pub read_cell : ℕ → ℕ
    read_cell q = I.array (read_array L.reads q) (nat (origin_value (read_index L.reads q)))

    unfoldable pub call_result : ℕ → ℕ → ℕ
    call_result w q =
        I.function (call_function L.calls q) w (tabulate (λ l. origin_value (call_arg L.calls L.cargs q l)) (arg_count L.calls q))

    -- the assignment that belongs to an interpretation; `given` counts for rows that are nobody's image and no entry's variable
    unfoldable pub assignment : (ℕ → ℕ) → ℕ → ℕ
    assignment given r =
        cond (ltb (read_of r) (read_count L.reads)) (read_cell (read_of r))
        (cond (ltb (call_of r) (call_count L.calls)) (call_result (field_at L.target.rows r 1) (call_of r))
        (cond (ltb (var_origin r) (source_rows L)) (I.variable (var_origin r)) (given r)))

-- two lists of values are one
abbrev pub same_val : Val → Val → Bool
same_val (val w n) (val v k) = all (eqb w v ∷ eqb n k ∷ [])

abbrev pub same_vals : List Val → List Val → Bool
same_vals [] [] = true
same_vals [] (v ∷ vs) = false
same_vals (u ∷ us) [] = false
same_vals (u ∷ us) (v ∷ vs) = all (same_val u v ∷ same_vals us vs ∷ [])

module _ (L : Lowering) (A : ℕ → ℕ) where
  -- an entry of array a whose index has the number x; one of function f with result width w whose arguments have these values
  unfoldable pub read_hit : ℕ → ℕ → ℕ → Bool
  read_hit a x q = all (eqb (read_array L.reads q) a ∷ eqb (nat (value_of_target L A (read_index L.reads q))) x ∷ [])

  unfoldable pub call_hit : ℕ → ℕ → List Val → ℕ → Bool
  call_hit f w vs q =
      all
      (eqb (call_function L.calls q) f
      ∷ eqb (field_at L.target.rows (call_var L.calls q) 1) w
      ∷ same_vals (tabulate (λ l. value_of_target L A (call_arg L.calls L.cargs q l)) (arg_count L.calls q)) vs
      ∷ [])

  abbrev pub read_at : ℕ → ℕ → ℕ
  read_at a x = first (read_hit a x) (read_count L.reads)

  abbrev pub call_at : ℕ → ℕ → List Val → ℕ
  call_at f w vs = first (call_hit f w vs) (call_count L.calls)

  -- the interpretation that belongs to an assignment: a mapped variable has its image's number, a cell and a function's result the number of
  -- the first entry's variable that hits it; J counts elsewhere
  unfoldable pub interpretation : Interpretation → Interpretation
  interpretation J =
      record {
        variable = λ i. cond (ltb (map_at L.map i) (target_rows L)) (A (map_at L.map i)) (J.variable i);
        array = λ a x. cond (ltb (read_at a x) (read_count L.reads)) (A (read_var L.reads (read_at a x))) (J.array a x);
        function = λ f w vs. cond (ltb (call_at f w vs) (call_count L.calls)) (A (call_var L.calls (call_at f w vs))) (J.function f w vs);
      }
