-- The outcome of the width operations, refusal by refusal. Assumes nothing.
use Prim.Native.Nat.{ℕ, ◌-◌, ◌<◌, ◌≤◌}
use mathlib.Core.Path.{◌≡◌, refl, sym, ap, ◌∙◌}
use mathlib.Core.Bool.{Bool, true, false, cond}
use mathlib.Core.List.{List, [], ◌∷◌, ◌++◌}
use native.Mathlib.Decide.{dec_lt}
use native.Mathlib.Omega.{arith}
use borrow.Author.Tests.{lt-ltb, le-ltb, ltb-false}
use lib.Dec.{ltb}
use lib.ListN.{length, replicate, take, drop}
use Rattle.sorts.specs.Sorts.{Sorts, Edition, sorts_of, sort_answer}
use Rattle.sorts.proofs.Sorts.{sort-zeroes, sort-accepted}
use Rattle.answers.specs.Answer.{Answer}
use Rattle.answers.specs.Answer.{Accepted, RowCount, BadRow, BadBit, WorkShort}
use Rattle.answers.specs.Answer.{is_accepted, and_then, keeps, lent}
use Rattle.answers.proofs.AndThen.{accepts-both}
use Rattle.answers.specs.Result.{Result, result_of, leaves}
use Rattle.lists.proofs.Choice.{no_way}
use Rattle.lists.proofs.Build.{build-length, build-front}
use Rattle.rows.specs.declared.Graph.{Graph}
use Rattle.rows.specs.declared.Graph.TheVariants.{Source, Target}
use Rattle.rows.specs.Row.{graph_number, row_count, ragged}
use Rattle.encoding.specs.Encoding.{bad_row, bad_bit}
use Rattle.wf.specs.Widths.{ill_row, widths, widths_to, row_width}
use Rattle.wf.specs.Pass.{stop_row}
use Rattle.wf.specs.Promise.{AreWidths}
use Rattle.wf.proofs.Promise.{are-widths}
use Rattle.wf.proofs.Stop.{stop-none, stop-ill}
use Rattle.refusals.specs.Rows.{ill_formed, rows_answer, rows_answer_by}
use Rattle.widths.specs.Widths.{widths_answer, graph_widths}

-- a bad row, a bad bit and an ill-formed row zero the list
lent-zero : (p q : Bool) (graph : Graph) (a b d row : ℕ) (old new : List ℕ)
    → lent (cond p (BadRow a d) (cond q (BadBit b d) (ill_formed graph row))) old new ≡ replicate (length old) 0
lent-zero true q graph a b d row old new = refl
lent-zero false true graph a b d row old new = refl
lent-zero false false Source a b d row old new = refl
lent-zero false false Target a b d row old new = refl

lent_rows : (graph : Graph) (g bits : List ℕ) (row : ℕ) → row < row_count graph g → (old new : List ℕ)
    → lent (rows_answer graph g bits row) old new ≡ replicate (length old) 0
lent_rows graph g bits row h old new =
    rw (lt-ltb _ _ h)
    (lent-zero (ltb (bad_row graph g) (row_count graph g)) (ltb (bad_bit bits) (length bits)) graph (bad_row graph g) (bad_bit bits)
    (graph_number graph)
    row old new)

module _ (σ : Sorts) (graph : Graph) (g bits side ws : List ℕ) where
  -- where the pass stops, the refusal is the same as for the first ill-formed row
  stop-answer : stop_row σ graph (length bits) side g < row_count graph g
      → rows_answer graph g bits (ill_row σ graph (length bits) side g) ≡ rows_answer graph g bits (stop_row σ graph (length bits) side g)
  stop-answer h = go (dec_lt (bad_row graph g) (row_count graph g))
    where
      go : Dec (bad_row graph g < row_count graph g)
          → rows_answer graph g bits (ill_row σ graph (length bits) side g) ≡ rows_answer graph g bits (stop_row σ graph (length bits) side g)
      go (yes l) = rw (lt-ltb _ _ l)
      go (no l) = ap (rows_answer graph g bits) (stop-ill σ graph (length bits) side g h (omega arith))

  -- the rows' answer, and what it leaves
  abbrev outcome : Result
  outcome = leaves (rows_answer graph g bits (ill_row σ graph (length bits) side g)) ((ws, widths σ graph (length bits) side g) ∷ [])

  pub widths-stop : stop_row σ graph (length bits) side g < row_count graph g
      → outcome ≡ result_of (rows_answer graph g bits (stop_row σ graph (length bits) side g)) (replicate (length ws) 0 ∷ [])
  widths-stop h =
      rw (stop-answer h)
      (ap (λ (l : List ℕ). result_of (rows_answer graph g bits (stop_row σ graph (length bits) side g)) (l ∷ []))
      (lent_rows graph g bits (stop_row σ graph (length bits) side g) h ws (widths σ graph (length bits) side g)))

  module _ (all : row_count graph g ≤ stop_row σ graph (length bits) side g) where
    pub widths-17 : bad_bit bits < length bits → outcome ≡ result_of (BadBit (bad_bit bits) (graph_number graph)) (replicate (length ws) 0 ∷ [])
    widths-17 h =
        let good : row_count graph g ≤ bad_row graph g = omega (arith, (stop-none σ graph (length bits) side g all).0) in
        rw (le-ltb _ _ good, lt-ltb _ _ h)

    pub widths-accepted : length bits ≤ bad_bit bits
        → outcome ≡ result_of Accepted ((widths σ graph (length bits) side g ++ replicate (length ws - row_count graph g) 0) ∷ [])
    widths-accepted clean =
        let good : row_count graph g ≤ bad_row graph g = omega (arith, (stop-none σ graph (length bits) side g all).0) in
        let formed : row_count graph g ≤ ill_row σ graph (length bits) side g = omega (arith, (stop-none σ graph (length bits) side g all).1) in
        rw (le-ltb _ _ good, le-ltb _ _ clean, le-ltb _ _ formed)
        (ap (λ (n : ℕ). result_of Accepted ((widths σ graph (length bits) side g ++ replicate (length ws - n) 0) ∷ []))
        (build-length (row_width σ graph (length bits) side g) (row_count graph g)))

-- a sort table that is refused zeroes the list, whatever is refused before it
lent-sort : (p q : Bool) (sort : Answer) (a b d : ℕ) (more : Answer) (old new : List ℕ) → is_accepted sort ≡ false → keeps sort ≡ false
    → lent (cond p (BadRow a d) (cond q (BadBit b d) (and_then sort more))) old new ≡ replicate (length old) 0
lent-sort true q sort a b d more old new n k = refl
lent-sort false true sort a b d more old new n k = refl
lent-sort false false sort a b d more old new n k = rw (n, n, k)

-- and settles the answer, whatever row would be named
any-row : (sort : Answer) (graph : Graph) (g bits : List ℕ) (x y : ℕ) → is_accepted sort ≡ false
    → rows_answer_by sort graph g bits x ≡ rows_answer_by sort graph g bits y
any-row sort graph g bits x y n = rw n

module _ (E : Edition) (graph : Graph) (g bits side ws : List ℕ) where
  pub widths-15 : ragged graph g ≡ true → graph_widths E graph g bits side ws ≡ result_of (RowCount (graph_number graph)) (ws ∷ [])
  widths-15 r = rw r

  module _ (whole : ragged graph g ≡ false) where
    pub widths-18 : length ws < row_count graph g → graph_widths E graph g bits side ws ≡ result_of (WorkShort (graph_number graph)) (ws ∷ [])
    widths-18 h = rw (whole, lt-ltb _ _ h)

    module _ (room : row_count graph g ≤ length ws) where
      pub widths-28 : is_accepted (sort_answer E) ≡ false → (stop : ℕ) (a : Answer) → a ≡ rows_answer_by (sort_answer E) graph g bits stop
          → graph_widths E graph g bits side ws ≡ result_of a (replicate (length ws) 0 ∷ [])
      widths-28 n stop a e =
          rw (whole, le-ltb _ _ room, e, any-row (sort_answer E) graph g bits stop (ill_row (sorts_of E) graph (length bits) side g) n)
          (ap (λ (l : List ℕ). result_of (rows_answer_by (sort_answer E) graph g bits (ill_row (sorts_of E) graph (length bits) side g)) (l ∷ []))
          (lent-sort (ltb (bad_row graph g) (row_count graph g)) (ltb (bad_bit bits) (length bits)) (sort_answer E) (bad_row graph g) (bad_bit bits)
          (graph_number graph)
          _ ws (widths (sorts_of E) graph (length bits) side g) n (sort-zeroes E)))

      pub widths-sorted : is_accepted (sort_answer E) ≡ true → graph_widths E graph g bits side ws ≡ outcome (sorts_of E) graph g bits side ws
      widths-sorted y = rw (whole, le-ltb _ _ room, sort-accepted E y)

-- the list that the row loop left, with zeros from row n on, where it came to the end
pub accepted-list : (σ : Sorts) (graph : Graph) (nbits : ℕ) (g side ws l : List ℕ) (n r : ℕ) → n ≡ row_count graph g → r ≡ n → length l ≡ length ws
    → l ≡ widths_to σ graph nbits side g r ++ drop r ws
    → take n l ++ replicate (length l - n) 0 ≡ widths σ graph nbits side g ++ replicate (length ws - row_count graph g) 0
accepted-list σ graph nbits g side ws l n r en er el e =
    rw (el, e, er, en)
    (ap (λ (z : List ℕ). z ++ replicate (length ws - row_count graph g) 0) (build-front (row_width σ graph nbits side g) (row_count graph g) _))

-- a refusal that was not met, where the answer accepts
unmet : (b : Bool) (refusal next : Answer) → is_accepted refusal ≡ false → is_accepted (cond b refusal next) ≡ true
    → (b ≡ false) × (is_accepted next ≡ true)
unmet true refusal next n e = no_way (sym e ∙ n)
unmet false refusal next n e = (refl, e)

ill-refuses : (graph : Graph) (row : ℕ) → is_accepted (ill_formed graph row) ≡ false
ill-refuses Source row = refl
ill-refuses Target row = refl

-- what 16, 17, 28 and 1 or 2 let pass
pub rows-passed : (sort : Answer) (graph : Graph) (g bits : List ℕ) (ill : ℕ) → is_accepted (rows_answer_by sort graph g bits ill) ≡ true
    → (row_count graph g ≤ bad_row graph g) × (length bits ≤ bad_bit bits) × (row_count graph g ≤ ill)
rows-passed sort graph g bits ill e =
    let (rows, f) = unmet (ltb (bad_row graph g) (row_count graph g)) _ _ refl e in
    let (clean, h) = unmet (ltb (bad_bit bits) (length bits)) _ _ refl f in
    let (formed, _) = unmet (ltb ill (row_count graph g)) _ _ (ill-refuses graph ill) (accepts-both sort _ h).1 in
    (ltb-false _ _ rows, ltb-false _ _ clean, ltb-false _ _ formed)

pub rows-accepted : (graph : Graph) (g bits : List ℕ) (ill : ℕ) → is_accepted (rows_answer graph g bits ill) ≡ true
    → rows_answer graph g bits ill ≡ Accepted
rows-accepted graph g bits ill e =
    let (rows, clean, formed) = rows-passed Accepted graph g bits ill e in rw (le-ltb _ _ rows, le-ltb _ _ clean, le-ltb _ _ formed)

-- "Every width handed upward is therefore between 1 and 4,096" (02, 2.8): by an operation that accepts
pub handed : (E : Edition) (graph : Graph) (g bits side : List ℕ) (room : ℕ) → is_accepted (widths_answer E graph g bits side room) ≡ true
    → AreWidths (widths (sorts_of E) graph (length bits) side g)
handed E graph g bits side room e =
    let whole = (unmet (ragged graph g) _ _ refl e).1 in
    let roomy = (unmet (ltb room (row_count graph g)) _ _ refl whole).1 in
    are-widths (sorts_of E) graph (length bits) side g (rows-passed (sort_answer E) graph g bits _ roomy).2
