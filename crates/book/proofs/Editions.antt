-- The answer to a book by its first start, in 02's words (2.9); first editions are answered as 01 has it. Assumes nothing.
use Prim.Native.Nat.{ℕ, zero, suc, ◌+◌, ◌*◌, ◌%◌, ◌≤◌, ◌<◌}
use mathlib.Core.Path.{◌≡◌, refl, sym, ap, ◌∙◌}
use mathlib.Core.Bool.{Bool, true, false, not, cond}
use mathlib.Core.List.{List}
use native.Mathlib.Omega.{arith}
use mathlib.Core.Logic.{⊎_elim}
use borrow.Author.Tests.{eqb-false, eq-eqb, ne_eqb, lt-ltb, le-ltb}
use lib.Dec.{eqb, ltb}
use lib.ListN.{length}
use Rattle.answers.specs.Answer.{Answer}
use Rattle.answers.specs.Answer.{Accepted, BookShape, NoSection}
use Rattle.answers.specs.Answer.{and_then}
use Rattle.lists.specs.First.{first}
use Rattle.lists.proofs.First.{first-at, first-same}
use Rattle.lists.proofs.Choice.{lt-or-ge}
use Rattle.contents.specs.Contents.{start_of, length_of, is_second, sections, contents, is_bits}
use Rattle.contents.proofs.Editions.{sections-first, sections-second, sections-low}
use Rattle.book.specs.Book.{end_of, due_at, bad_section, first_bad, book_answer, section_answer}
use Rattle.book.proofs.Shape.{too_short, shape-counts}

-- 01's definition, for eleven sections behind 176 bytes
abbrev pub eleven_due : List ℕ → ℕ → ℕ
eleven_due b zero = 176
eleven_due b (suc i) = start_of b i + length_of b i

abbrev pub eleven_bad : List ℕ → ℕ → Bool
eleven_bad b i =
    cond (not (eqb (start_of b i) (eleven_due b i))) true
    (cond (ltb (length b) (start_of b i + length_of b i)) true (cond (is_bits i) false (not (eqb (length_of b i % 8) 0))))

abbrev pub eleven_answer : List ℕ → Answer
eleven_answer b =
    cond (ltb (length b) 176) (BookShape 0)
    (cond (ltb (first (eleven_bad b) 11) 11) (BookShape (first (eleven_bad b) 11 + 1))
    (cond (eqb (eleven_due b 11) (length b)) Accepted (BookShape 12)))

abbrev pub eleven_section : List ℕ → ℕ → Answer
eleven_section b number = cond (eqb number 0) NoSection (cond (ltb 11 number) NoSection (eleven_answer b))

module _ (b : List ℕ) where
  -- "under 192 bytes is place 0"; 01's 176 in either edition
  pub under-176 : length b < 176 → book_answer b ≡ BookShape 0
  under-176 h = sym (too_short b (omega (arith, sections-low b)))

  pub second-under-192 : start_of b 0 ≡ 192 → length b < 192 → book_answer b ≡ BookShape 0
  second-under-192 s h =
      let n : sections b ≡ 12 = sections-second b (eq-eqb _ _ s) in
      sym (too_short b (omega arith))

  module _ (s : start_of b 0 ≡ 192 → ⊥) where
    not-second : is_second b ≡ false
    not-second = ne_eqb _ _ s

    eleven : sections b ≡ 11
    eleven = sections-first b not-second

    -- "any other first start is 20 at section 1"
    pub other-start : (start_of b 0 ≡ 176 → ⊥) → 176 ≤ length b → book_answer b ≡ BookShape 1
    other-start n h =
        let l : contents b ≤ length b = omega (arith, eleven) in
        let m : (start_of b 0 ≡ due_at b 0 → ⊥) = λ z. n (z ∙ ap (λ (k : ℕ). 16 * k) eleven) in
        let f : first_bad b ≡ 0 = first-at (bad_section b) (sections b) 0 (omega (arith, eleven)) (rw (ne_eqb _ _ m)) (λ j k. absurd (omega arith)) in
        let g : first_bad b < sections b = omega (arith, eleven) in
        rw (le-ltb _ _ l, lt-ltb _ _ g, f)

    due-same : (i : ℕ) → due_at b i ≡ eleven_due b i
    due-same zero = ap (λ (k : ℕ). 16 * k) eleven
    due-same (suc i) = refl

    bad-same : (i : ℕ) → bad_section b i ≡ eleven_bad b i
    bad-same i =
        ap (λ (k : ℕ). cond (not (eqb (start_of b i) k)) true (cond (ltb (length b) (end_of b i)) true
        (cond (is_bits i) false (not (eqb (length_of b i % 8) 0))))) (due-same i)

    bad-first : first_bad b ≡ first (eleven_bad b) 11
    bad-first = ap (first (bad_section b)) eleven ∙ first-same (bad_section b) (eleven_bad b) 11 (λ i h. bad-same i)

    same_answer : book_answer b ≡ eleven_answer b
    same_answer = rw (bad-first, eleven, not-second)

    same-section : (number : ℕ) → (number ≡ 12 → ⊥) → section_answer b number ≡ eleven_section b number
    same-section number n = go (eqb number 0) refl
      where
        go : (z : Bool) → eqb number 0 ≡ z → section_answer b number ≡ eleven_section b number
        go true e = rw e
        go false e =
            ⊎_elim (λ l. rw (e, lt-ltb 12 number l, lt-ltb 11 number (omega arith)))
            (λ l. sym (shape-counts b number (eqb-false number 0 e) l n) ∙ same_answer ∙ rw (e, le-ltb 11 number (omega arith))) (lt-or-ge 12 number)

-- "A first start of 176 means the first edition, .. answers as before"
module _ (b : List ℕ) (s : start_of b 0 ≡ 176) where
  no_second : start_of b 0 ≡ 192 → ⊥
  no_second z = absurd (omega arith)

  pub as_before : book_answer b ≡ eleven_answer b
  as_before = same_answer b no_second

  pub section-as-before : (number : ℕ) → (number ≡ 12 → ⊥) → section_answer b number ≡ eleven_section b number
  section-as-before = same-section b no_second

  -- "Section 12 of a first-edition book is 24, after its shape is found good"
  pub no-twelfth : section_answer b 12 ≡ and_then (book_answer b) NoSection
  no-twelfth = rw (not-second b no_second)
