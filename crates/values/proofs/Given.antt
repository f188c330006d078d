-- What the answers that passed give of a target: it can be evaluated. Assumes nothing.
use Prim.Native.Nat.{ℕ, ◌<◌, ◌≤◌, ◌^◌}
use mathlib.Core.Path.{◌≡◌, refl, sym}
use mathlib.Core.Bool.{Bool, true, false, cond}
use mathlib.Core.List.{List, []}
use native.Mathlib.Omega.{arith}
use borrow.Author.Tests.{eqb-true, eq-eqb, ltb-true, ltb-false, not-false}
use lib.Dec.{eqb, ltb}
use lib.ListN.{length, get_or}
use Rattle.sorts.specs.Sorts.{plain}
use Rattle.answers.specs.Answer.{Accepted, TooWide, ValueCount, ValueRange}
use Rattle.answers.specs.Answer.{is_accepted}
use Rattle.evaluate.specs.Ready.{Evaluable}
use Rattle.lists.proofs.Choice.{no_way}
use Rattle.lists.proofs.First.{first-before}
use Rattle.lists.proofs.Build.{build-length}
use Rattle.lists.proofs.Tests.{get_or-every}
use Rattle.rows.specs.declared.Graph.TheVariants.{Target}
use Rattle.rows.specs.declared.Node.TheVariants.{Var}
use Rattle.rows.specs.Row.{row_count, row_at}
use Rattle.rows.specs.Node.{node_of}
use Rattle.encoding.specs.Encoding.{bad_row, bad_bit}
use Rattle.encoding.proofs.Encoding.{clean}
use Rattle.value.proofs.Tagged.{core-rows, node-var}
use Rattle.wf.specs.Widths.{ill_row, widths, row_width}
use Rattle.wf.specs.Promise.{AreWidths}
use Rattle.wf.proofs.Promise.{well-formed, are-widths}
use Rattle.refusals.specs.Rows.{rows_answer}
use Rattle.widths.proofs.Widths.{rows-passed}
use Rattle.inputs.specs.Inputs.{row_wide, wide_row, word_bad, bad_word, given_answer}

-- an accepted answer failed each of its tests
pub given-tests : (p q r : Bool) (a b d f : ℕ) → is_accepted (cond p (TooWide a 0) (cond q (cond r (ValueRange b) Accepted) (ValueCount d f))) ≡ true
    → (p ≡ false) × (q ≡ true) × (r ≡ false)
given-tests true q r a b d f e = no_way (sym e)
given-tests false true true a b d f e = no_way (sym e)
given-tests false true false a b d f e = (refl, refl, refl)
given-tests false false r a b d f e = no_way (sym e)

module _ (g bits given : List ℕ) (rows : is_accepted (rows_answer Target g bits (ill_row plain Target (length bits) [] g)) ≡ true)
    (words : is_accepted (given_answer g (widths plain Target (length bits) [] g) given) ≡ true) where
  passed : (row_count Target g ≤ bad_row Target g) × (length bits ≤ bad_bit bits) × (row_count Target g ≤ ill_row plain Target (length bits) [] g)
  passed = rows-passed Accepted Target g bits _ rows

  words-passed : (row_count Target g ≤ wide_row (widths plain Target (length bits) [] g) (row_count Target g)) × (length given ≡ row_count Target g)
      × (row_count Target g ≤ bad_word g given)
  words-passed =
      let (p, q, r) =
      given-tests (ltb (wide_row (widths plain Target (length bits) [] g) (row_count Target g)) (row_count Target g))
      (eqb (length given) (row_count Target g)) (ltb (bad_word g given) (row_count Target g))
      (wide_row (widths plain Target (length bits) [] g) (row_count Target g)) (bad_word g given) (row_count Target g) (length given) words in
      (ltb-false _ _ p, eqb-true _ _ q, ltb-false _ _ r)

  pub width-count : length (widths plain Target (length bits) [] g) ≡ row_count Target g
  width-count = build-length (row_width plain Target (length bits) [] g) (row_count Target g)

  -- "Every width handed upward is therefore between 1 and 4,096" (02, 2.8)
  pub handed : AreWidths (widths plain Target (length bits) [] g)
  handed = are-widths plain Target (length bits) [] g passed.2

  narrow : (a : ℕ) → get_or (widths plain Target (length bits) [] g) a 0 ≤ 64
  narrow =
      get_or-every (widths plain Target (length bits) [] g) (λ x. x ≤ 64) (omega arith)
      (λ k h. ltb-false 64 _ (first-before (row_wide (widths plain Target (length bits) [] g)) (row_count Target g) k
      (omega (arith, words-passed.0, width-count))))

  fit : (i w : ℕ) → i < row_count Target g → node_of (row_at Target g i) ≡ Var w → get_or given i 0 < 2 ^ w
  fit i w h q =
      let (t, e) = node-var (row_at Target g i) w q in
      let b : word_bad g given i ≡ false = first-before (word_bad g given) (row_count Target g) i (omega (arith, words-passed.2)) in
      ltb-true _ _ (not-false _ (rw (eq-eqb _ _ t, e) at b))

  pub evaluable : Evaluable g bits given (widths plain Target (length bits) [] g)
  evaluable =
      record {
        formed = well-formed plain Target (length bits) [] g passed.2;
        narrow = narrow;
        clean = clean bits passed.1;
        core = core-rows g passed.0;
        assigns = fit;
        widths = width-count;
        words = words-passed.1;
      }
