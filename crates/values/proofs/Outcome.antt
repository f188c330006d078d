-- The outcome of Values, refusal by refusal. Assumes nothing.
use Prim.Native.Nat.{ℕ, ◌-◌, ◌<◌, ◌≤◌}
use mathlib.Core.Path.{◌≡◌, refl, ap, ap₂, ◌∙◌}
use mathlib.Core.Bool.{Bool, true, false, cond}
use mathlib.Core.List.{List, [], ◌∷◌, ◌++◌}
use borrow.Author.Tests.{lt-ltb, le-ltb}
use lib.Dec.{eqb, ltb}
use lib.ListN.{length, replicate}
use Rattle.sorts.specs.Sorts.{plain}
use Rattle.value.specs.Graph.{numbers_to}
use Rattle.answers.specs.Answer.{Answer}
use Rattle.answers.specs.Answer.{Accepted, Core, RowCount, BadRow, BadBit, WorkShort, TooWide, ValueCount, ValueRange}
use Rattle.answers.specs.Answer.{lent, is_accepted}
use Rattle.answers.specs.Result.{result_of}
use Rattle.evaluate.proofs.Rows.{numbers-length}
use Rattle.lists.proofs.Choice.{no_way}
use Rattle.lists.proofs.Build.{build-length}
use Rattle.rows.specs.declared.Graph.TheVariants.{Target}
use Rattle.rows.specs.Row.{row_count, ragged}
use Rattle.encoding.specs.Encoding.{bad_row, bad_bit}
use Rattle.wf.specs.Widths.{ill_row, widths, row_width}
use Rattle.refusals.specs.Rows.{rows_answer}
use Rattle.values.proofs.Given.{given-tests}
use Rattle.inputs.specs.Inputs.{wide_row, bad_word, given_answer}
use Rattle.values.specs.Values.{values_answer, values}

-- a refusal for the rows, and one for the words given, zero a list
pub rows-zero : (p q r : Bool) (a b d row : ℕ) (old new : List ℕ)
    → is_accepted (cond p (BadRow a d) (cond q (BadBit b d) (cond r (Core row) Accepted))) ≡ false
    → lent (cond p (BadRow a d) (cond q (BadBit b d) (cond r (Core row) Accepted))) old new ≡ replicate (length old) 0
rows-zero true q r a b d row old new e = refl
rows-zero false true r a b d row old new e = refl
rows-zero false false true a b d row old new e = refl
rows-zero false false false a b d row old new e = no_way e

given-zero : (p q r : Bool) (a b d f : ℕ) (old new : List ℕ)
    → is_accepted (cond p (TooWide a 0) (cond q (cond r (ValueRange b) Accepted) (ValueCount d f))) ≡ false
    → lent (cond p (TooWide a 0) (cond q (cond r (ValueRange b) Accepted) (ValueCount d f))) old new ≡ replicate (length old) 0
given-zero true q r a b d f old new e = refl
given-zero false true true a b d f old new e = refl
given-zero false true false a b d f old new e = no_way e
given-zero false false r a b d f old new e = refl

-- an accepted answer is Accepted
given_yes : (p q r : Bool) (a b d f : ℕ) → is_accepted (cond p (TooWide a 0) (cond q (cond r (ValueRange b) Accepted) (ValueCount d f))) ≡ true
    → cond p (TooWide a 0) (cond q (cond r (ValueRange b) Accepted) (ValueCount d f)) ≡ Accepted
given_yes p q r a b d f e = let (x, y, z) = given-tests p q r a b d f e in rw (x, y, z)

module _ (g bits given ws vs : List ℕ) where
  -- the outcome is settled by the answer
  settled : (a : Answer) → values_answer g bits given (length ws) (length vs) ≡ a
      → values g bits given ws vs
      ≡ result_of a ((lent a ws (widths plain Target (length bits) [] g)) ∷ (lent a vs (numbers_to g bits given (row_count Target g))) ∷ [])
  settled a e =
      ap (λ (x : Answer). result_of x ((lent x ws (widths plain Target (length bits) [] g)) ∷
      (lent x vs (numbers_to g bits given (row_count Target g)))
      ∷ [])) e

  pub values-15 : ragged Target g ≡ true → values g bits given ws vs ≡ result_of (RowCount 2) (ws ∷ vs ∷ [])
  values-15 r = settled (RowCount 2) (rw r)

  module _ (whole : ragged Target g ≡ false) where
    pub values-18 : length ws < row_count Target g → values g bits given ws vs ≡ result_of (WorkShort 1) (ws ∷ vs ∷ [])
    values-18 h = settled (WorkShort 1) (rw (whole, lt-ltb _ _ h))

    module _ (room : row_count Target g ≤ length ws) where
      pub values-18-too : length vs < row_count Target g → values g bits given ws vs ≡ result_of (WorkShort 2) (ws ∷ vs ∷ [])
      values-18-too h = settled (WorkShort 2) (rw (whole, le-ltb _ _ room, lt-ltb _ _ h))

      module _ (room-too : row_count Target g ≤ length vs) where
        pub values-rows : is_accepted (rows_answer Target g bits (ill_row plain Target (length bits) [] g)) ≡ false
            → values g bits given ws vs
            ≡ result_of (rows_answer Target g bits (ill_row plain Target (length bits) [] g)) (replicate (length ws) 0 ∷ replicate (length vs) 0 ∷ [])
        values-rows e =
            settled (rows_answer Target g bits (ill_row plain Target (length bits) [] g)) (rw (whole, le-ltb _ _ room, le-ltb _ _ room-too, e))
            ∙ ap₂ (λ (k l : List ℕ). result_of (rows_answer Target g bits (ill_row plain Target (length bits) [] g)) (k ∷ l ∷ []))
            (zero ws (widths plain Target (length bits) [] g)) (zero vs (numbers_to g bits given (row_count Target g)))
          where
            zero : (old new : List ℕ) → lent (rows_answer Target g bits (ill_row plain Target (length bits) [] g)) old new ≡ replicate (length old) 0
            zero old new =
                rows-zero (ltb (bad_row Target g) (row_count Target g)) (ltb (bad_bit bits) (length bits))
                (ltb (ill_row plain Target (length bits) [] g) (row_count Target g))
                (bad_row Target g) (bad_bit bits) 2 (ill_row plain Target (length bits) [] g) old new e

        module _ (rows : is_accepted (rows_answer Target g bits (ill_row plain Target (length bits) [] g)) ≡ true) where
          answer-is : values_answer g bits given (length ws) (length vs) ≡ given_answer g (widths plain Target (length bits) [] g) given
          answer-is = rw (whole, le-ltb _ _ room, le-ltb _ _ room-too, rows)

          pub values-given : is_accepted (given_answer g (widths plain Target (length bits) [] g) given) ≡ false
              → values g bits given ws vs
              ≡ result_of (given_answer g (widths plain Target (length bits) [] g) given) (replicate (length ws) 0 ∷ replicate (length vs) 0 ∷ [])
          values-given e =
              settled (given_answer g (widths plain Target (length bits) [] g) given) answer-is
              ∙ ap₂ (λ (k l : List ℕ). result_of (given_answer g (widths plain Target (length bits) [] g) given) (k ∷ l ∷ []))
              (zero ws (widths plain Target (length bits) [] g)) (zero vs (numbers_to g bits given (row_count Target g)))
            where
              zero : (old new : List ℕ) → lent (given_answer g (widths plain Target (length bits) [] g) given) old new ≡ replicate (length old) 0
              zero old new =
                  given-zero (ltb (wide_row (widths plain Target (length bits) [] g) (row_count Target g)) (row_count Target g))
                  (eqb (length given) (row_count Target g)) (ltb (bad_word g given) (row_count Target g))
                  (wide_row (widths plain Target (length bits) [] g) (row_count Target g)) (bad_word g given) (row_count Target g) (length given)
                  old new
                  e

          pub values-accepted : is_accepted (given_answer g (widths plain Target (length bits) [] g) given) ≡ true
              → values g bits given ws vs
              ≡ result_of Accepted ((widths plain Target (length bits) [] g ++ replicate (length ws - row_count Target g) 0)
              ∷ (numbers_to g bits given (row_count Target g) ++ replicate (length vs - row_count Target g) 0) ∷ [])
          values-accepted e =
              settled Accepted (answer-is
              ∙ given_yes (ltb (wide_row (widths plain Target (length bits) [] g) (row_count Target g)) (row_count Target g))
              (eqb (length given) (row_count Target g)) (ltb (bad_word g given) (row_count Target g))
              (wide_row (widths plain Target (length bits) [] g) (row_count Target g)) (bad_word g given) (row_count Target g) (length given) e)
              ∙ ap₂ (λ (k l : List ℕ). result_of Accepted (k ∷ l ∷ []))
              (ap (λ (n : ℕ). widths plain Target (length bits) [] g ++ replicate (length ws - n) 0)
              (build-length (row_width plain Target (length bits) [] g) (row_count Target g)))
              (ap (λ (n : ℕ). numbers_to g bits given (row_count Target g) ++ replicate (length vs - n) 0)
              (numbers-length g bits given (row_count Target g)))
