-- What the widths operation and the evaluation leave, for the operation above them. Assumes nothing.
use Prim.Native.Nat.{ℕ, ◌-◌, ◌≤◌}
use mathlib.Core.Path.{◌≡◌, ap, ◌∙◌}
use mathlib.Core.Bool.{true, false}
use mathlib.Core.List.{List, [], ◌∷◌, ◌++◌}
use borrow.Author.Tests.{le-ltb}
use lib.Dec.{ltb}
use lib.ListN.{length, get_or, replicate, take, drop}
use Rattle.sorts.specs.Sorts.{plain}
use Rattle.value.specs.Graph.{numbers_to}
use Rattle.answers.specs.Answer.{Answer}
use Rattle.answers.specs.Answer.{lent, is_accepted}
use Rattle.answers.specs.Result.{Result, result_of}
use Rattle.evaluate.proofs.Rows.{numbers-front}
use Rattle.lists.proofs.Build.{build-length, build-front}
use Rattle.rows.specs.declared.Graph.TheVariants.{Target}
use Rattle.rows.specs.Row.{row_count, ragged}
use Rattle.encoding.specs.Encoding.{bad_row, bad_bit}
use Rattle.wf.specs.Widths.{ill_row, widths, row_width}
use Rattle.refusals.specs.Rows.{rows_answer}
use Rattle.widths.specs.Widths.{target_widths}
use Rattle.widths.proofs.Widths.{rows-accepted}
use Rattle.values.proofs.Outcome.{rows-zero}

-- the widths operation on a whole target with room: its answer and its list
module _ (g bits ws : List ℕ) (a : Answer) (l : List ℕ) (done : result_of a (l ∷ []) ≡ target_widths g bits ws) (whole : ragged Target g ≡ false)
    (room : row_count Target g ≤ length ws) where
  pub widths-answer : a ≡ rows_answer Target g bits (ill_row plain Target (length bits) [] g)
  widths-answer = ap (λ (r : Result). r.answer) done ∙ rw (whole, le-ltb _ _ room)

  widths-list : l ≡ lent (rows_answer Target g bits (ill_row plain Target (length bits) [] g)) ws (widths plain Target (length bits) [] g)
  widths-list = ap (λ (r : Result). get_or r.lists 0 []) done ∙ rw (whole, le-ltb _ _ room)

  pub widths-refused : is_accepted (rows_answer Target g bits (ill_row plain Target (length bits) [] g)) ≡ false → l ≡ replicate (length ws) 0
  widths-refused e =
      widths-list
      ∙ rows-zero (ltb (bad_row Target g) (row_count Target g)) (ltb (bad_bit bits) (length bits))
      (ltb (ill_row plain Target (length bits) [] g) (row_count Target g))
      (bad_row Target g) (bad_bit bits) 2 (ill_row plain Target (length bits) [] g) ws (widths plain Target (length bits) [] g) e

  pub widths-accepted : is_accepted (rows_answer Target g bits (ill_row plain Target (length bits) [] g)) ≡ true
      → l ≡ widths plain Target (length bits) [] g ++ replicate (length ws - row_count Target g) 0
  widths-accepted e =
      widths-list
      ∙ ap (λ (x : Answer). lent x ws (widths plain Target (length bits) [] g))
      (rows-accepted Target g bits _ e)
      ∙ ap (λ (n : ℕ). widths plain Target (length bits) [] g ++ replicate (length ws - n) 0)
      (build-length (row_width plain Target (length bits) [] g) (row_count Target g))

  pub widths-front : is_accepted (rows_answer Target g bits (ill_row plain Target (length bits) [] g)) ≡ true
      → (n : ℕ) → n ≡ row_count Target g → take n l ≡ widths plain Target (length bits) [] g
  widths-front e n c = rw (c, widths-accepted e) (build-front (row_width plain Target (length bits) [] g) (row_count Target g) _)

-- the evaluated list with zeros from row n on
pub values-list : (g bits given vs l : List ℕ) (n m : ℕ) → n ≡ row_count Target g → m ≡ row_count Target g → length l ≡ length vs
    → l ≡ numbers_to g bits given m ++ drop m vs
    → take n l ++ replicate (length l - n) 0 ≡ numbers_to g bits given (row_count Target g) ++ replicate (length vs - row_count Target g) 0
values-list g bits given vs l n m en em el e =
    rw (el, e, em, en) (ap (λ (z : List ℕ). z ++ replicate (length vs - row_count Target g) 0) (numbers-front g bits given (row_count Target g) _))
