-- The rows in order: the search for the first refusal, with the classes before each row. Assumes nothing.
use Prim.Native.Nat.{ℕ, ◌+◌, ◌<◌, ◌≤◌}
use mathlib.Core.Path.{◌≡◌, refl, sym, ◌∙◌}
use mathlib.Core.Bool.{Bool, true, false, cond, not}
use mathlib.Core.List.{List}
use native.Mathlib.Numerals.{add-one}
use borrow.Author.Count.{below_more}
use borrow.Author.Tests.{lt-ltb, le-ltb, not-true, not-false}
use Rattle.answers.specs.Answer.{Answer}
use Rattle.answers.specs.Answer.{Accepted}
use Rattle.answers.specs.Answer.{is_accepted}
use Rattle.lists.specs.Trace.{trace}
use Rattle.lists.proofs.First.{first-at, first_past}
use Rattle.rows.specs.declared.Graph.TheVariants.{Source}
use Rattle.rows.specs.Row.{row_count}
use Rattle.lowering.specs.Lowering.{Binding}
use Rattle.lowering.specs.Matching.{Noted, noted, row_answer, row_classes, classes_to, noted_to, refused_row, all_rows_answer}

module _ (B : Binding) (N : Noted) where
  -- the classes before row i, its answer, and whether it is refused
  abbrev pub before : ℕ → List ℕ
  before i = classes_to B N.classes i

  abbrev answer : ℕ → Answer
  answer i = row_answer B (noted_to B N i) i

  abbrev pub refused : ℕ → Bool
  refused i = not (is_accepted (answer i))

  abbrev count : ℕ
  count = row_count Source B.source.rows

  abbrev pub stop : ℕ
  stop = refused_row B N

  abbrev pub whole : Answer
  whole = all_rows_answer B N

  pub rows_start : N.classes ≡ before 0
  unfolding trace
  rows_start = refl

  -- a search that has come to row i, where old are the classes and new those after the row, with answer a
  module _ (i : ℕ) (old : List ℕ) (passed : (j : ℕ) → j < i → refused j ≡ false) (o : old ≡ before i) where
    module _ (a : Answer) (new : List ℕ) (h : i < count) (m : a ≡ row_answer B (noted old N.offsets) i)
        (n : new ≡ cond (is_accepted a) (row_classes B i old) old) where
      here : a ≡ answer i
      here = m ∙ rw o

      pub rows-stop : not (is_accepted a) ≡ true → (a ≡ whole) × (new ≡ before stop)
      rows-stop x =
          let e : stop ≡ i = first-at refused count i h (rw here at x) passed in
          (here ∙ sym (rw (e, lt-ltb i count h)), n ∙ rw (not-true (is_accepted a) x, e) o)

      pub rows_more : not (is_accepted a) ≡ false → (new ≡ before (i + 1)) × ((j : ℕ) → j < i + 1 → refused j ≡ false)
      unfolding trace
      rows_more x = (n ∙ rw (not-false (is_accepted a) x, add-one, o), below_more _ _ passed (rw here at x))

    pub rows_end : i ≤ count → count ≤ i → (Accepted ≡ whole) × (old ≡ before stop)
    rows_end l g =
        let e : stop ≡ i = first_past refused count i l g passed in
        (sym (rw (e, le-ltb i count g)), o ∙ rw e)
