-- What a section and a book of good shape have. Assumes nothing.
use Prim.Native.Nat.{ℕ, zero, suc, ◌+◌, ◌-◌, ◌%◌, ◌≤◌, ◌<◌}
use mathlib.Core.Path.{◌≡◌, refl, sym, ap, ◌∙◌}
use mathlib.Core.Bool.{Bool, true, false, not, cond}
use mathlib.Core.List.{List}
use native.Mathlib.Omega.{arith}
use borrow.Author.Tests.{ltb-false, eqb-true, eqb-false, not-false, lt-ltb, le-ltb, eq-eqb, ne_eqb}
use lib.Dec.{eqb, ltb}
use lib.ListN.{length, take, drop}
use Rattle.answers.specs.Answer.{Answer}
use Rattle.answers.specs.Answer.{Accepted, BookShape, NoSection}
use Rattle.answers.specs.Answer.{is_accepted, and_then}
use Rattle.lists.proofs.Choice.{no_way}
use Rattle.lists.proofs.First.{first-before}
use Rattle.contents.specs.Contents.{start_of, length_of, is_second, sections, contents, is_bits}
use Rattle.contents.proofs.Editions.{sections-low, first_of, second-of}
use Rattle.book.specs.Book.{end_of, due_at, bad_section, first_bad, left_over, book_answer, section_answer, body, section_place, section}
use Rattle.book.specs.Good.{Good}

-- the tests of a section one after the other
module _ (b : List ℕ) (i start due : ℕ) (s : start ≡ start_of b i) (d : due ≡ due_at b i) where
  pub bad-start : (start ≡ due → ⊥) → true ≡ bad_section b i
  bad-start n = let m : (start_of b i ≡ due_at b i → ⊥) = λ z. n (s ∙ z ∙ sym d) in rw (ne_eqb _ _ m)

  module _ (e : start ≡ due) (len : ℕ) (l : len ≡ length_of b i) where
    starts-due : eqb (start_of b i) (due_at b i) ≡ true
    starts-due = eq-eqb _ _ (sym s ∙ e ∙ d)

    ends_at : (n : ℕ) → ltb n (start + len) ≡ ltb n (end_of b i)
    ends_at n = rw (s, l)

    pub bad-end : true ≡ ltb (length b) (start + len) → true ≡ bad_section b i
    bad-end p = rw (starts-due, sym (ends_at (length b)), sym p)

    module _ (p : false ≡ ltb (length b) (start + len)) where
      pub bits-good : true ≡ is_bits i → false ≡ bad_section b i
      bits-good t = rw (starts-due, sym (ends_at (length b)), sym p, sym t)

      pub words-good : false ≡ is_bits i → not (eqb (len % 8) 0) ≡ bad_section b i
      words-good t = rw (starts-due, sym (ends_at (length b)), sym p, sym t, l)

-- a section that is not bad
pub record Section (b : List ℕ) (i : ℕ) : Type 0 where
  pub starts : start_of b i ≡ due_at b i
  pub within : end_of b i ≤ length b
  pub whole : is_bits i ≡ false → length_of b i % 8 ≡ 0

pub good-section : (b : List ℕ) (i : ℕ) → bad_section b i ≡ false → Section b i
good-section b i = go (eqb (start_of b i) (due_at b i)) refl (ltb (length b) (end_of b i)) refl (is_bits i) refl (eqb (length_of b i % 8) 0) refl
  where
    go : (s : Bool) → eqb (start_of b i) (due_at b i) ≡ s → (l : Bool) → ltb (length b) (end_of b i) ≡ l → (t : Bool) → is_bits i ≡ t
        → (w : Bool) → eqb (length_of b i % 8) 0 ≡ w → cond (not s) true (cond l true (cond t false (not w))) ≡ false → Section b i
    go false e l f t g w h n = no_way n
    go true e true f t g w h n = no_way n
    go true e false f true g w h n =
        record { starts = eqb-true _ _ e; within = ltb-false _ _ f; whole = λ z. no_way (sym g ∙ z) }
    go true e false f false g w h n =
        record { starts = eqb-true _ _ e; within = ltb-false _ _ f; whole = λ z. eqb-true _ _ (h ∙ not-false w n) }

-- the answer to a book by its three tests
abbrev pub shape-by : List ℕ → Bool → Bool → Bool → Answer
shape-by b s f d = cond s (BookShape 0) (cond f (BookShape (first_bad b + 1)) (cond d Accepted (BookShape (left_over b))))

-- a book that is not refused
pub record Book (b : List ℕ) : Type 0 where
  pub long : contents b ≤ length b
  pub each : (i : ℕ) → i < sections b → Section b i
  pub ends : due_at b (sections b) ≡ length b

pub good_book : (b : List ℕ) → Good b → Book b
good_book b = go (ltb (length b) (contents b)) refl (ltb (first_bad b) (sections b)) refl (eqb (due_at b (sections b)) (length b)) refl
  where
    go : (s : Bool) → ltb (length b) (contents b) ≡ s → (f : Bool) → ltb (first_bad b) (sections b) ≡ f → (d : Bool)
        → eqb (due_at b (sections b)) (length b) ≡ d
        → is_accepted (shape-by b s f d) ≡ true → Book b
    go true e f g d h n = no_way (sym n)
    go false e true g d h n = no_way (sym n)
    go false e false g false h n = no_way (sym n)
    go false e false g true h n =
        record {
          long = ltb-false _ _ e;
          each =
              λ i l. good-section b i (first-before (bad_section b) (sections b) i (let k : sections b ≤ first_bad b = ltb-false _ _ g in
              omega arith));
          ends = eqb-true _ _ h;
        }

-- it has a first word
pub first_word : (b : List ℕ) → Good b → 8 ≤ length b
first_word b g = omega (arith, (good_book b g).long, sections-low b)

-- the stretch from a section's start to its end
pub body_is : (b : List ℕ) (i s e : ℕ) → s ≡ start_of b i → e ≡ end_of b i → take (e - s) (drop s b) ≡ body b i
body_is b i s e f g = let d : end_of b i - start_of b i ≡ length_of b i = omega arith in rw (f, g, d)

-- the last section's end
due-end : (b : List ℕ) (n : ℕ) → 1 ≤ n → due_at b n ≡ end_of b (n - 1)
due-end b zero h = absurd (omega arith)
due-end b (suc i) h = let e : i ≡ suc i - 1 = omega arith in ap (end_of b) e

-- the answer to a book, test by test
module _ (b : List ℕ) where
  pub too_short : length b < contents b → BookShape 0 ≡ book_answer b
  too_short h = rw (lt-ltb _ _ h)

  module _ (l : contents b ≤ length b) (n : ℕ) (k : n ≡ sections b) (bad : ℕ) (e : bad ≡ first_bad b) where
    pub off-place : bad < n → BookShape (bad + 1) ≡ book_answer b
    off-place h = let m : first_bad b < sections b = omega arith in rw (le-ltb _ _ l, lt-ltb _ _ m, e)

    module _ (h : n ≤ bad) where
      none-bad : sections b ≤ first_bad b
      none-bad = omega arith

      pub last_within : end_of b (n - 1) ≤ length b
      last_within = (good-section b (n - 1) (first-before (bad_section b) (sections b) (n - 1) (omega (arith, none-bad, sections-low b)))).within

      module _ (end : ℕ) (f : end ≡ end_of b (n - 1)) where
        end_is : due_at b (sections b) ≡ end
        end_is = ap (due_at b) (sym k) ∙ due-end b n (omega (arith, sections-low b)) ∙ sym f

        pub good-shape : end ≡ length b → Accepted ≡ book_answer b
        good-shape q = rw (le-ltb _ _ l, le-ltb _ _ none-bad, eq-eqb _ _ (end_is ∙ q))

        module _ (q : end ≡ length b → ⊥) where
          over : BookShape (left_over b) ≡ book_answer b
          over = rw (le-ltb _ _ l, le-ltb _ _ none-bad, ne_eqb _ _ (λ z. q (sym end_is ∙ z)))

          pub over-second : n ≡ 12 → BookShape 14 ≡ book_answer b
          over-second m = ap (λ (t : Bool). BookShape (cond t 14 12)) (sym (second-of b (sym k ∙ m))) ∙ over

          pub over_first : (n ≡ 12 → ⊥) → BookShape 12 ≡ book_answer b
          over_first m = ap (λ (t : Bool). BookShape (cond t 14 12)) (sym (first_of b (λ z. m (k ∙ z)))) ∙ over

-- the answer to a section's number, test by test
module _ (b : List ℕ) where
  shape-alone : and_then (book_answer b) Accepted ≡ book_answer b
  shape-alone = go (ltb (length b) (contents b)) (ltb (first_bad b) (sections b)) (eqb (due_at b (sections b)) (length b))
    where
      go : (s f d : Bool) → and_then (shape-by b s f d) Accepted ≡ shape-by b s f d
      go true f d = refl
      go false true d = refl
      go false false true = refl
      go false false false = refl

  -- every book has eleven sections
  pub shape-counts : (number : ℕ) → (number ≡ 0 → ⊥) → number ≤ 12 → (number ≡ 12 → ⊥) → book_answer b ≡ section_answer b number
  shape-counts number z h n = rw (ne_eqb number 0 z, le-ltb 12 number h, le-ltb (sections b) number (omega (arith, sections-low b))) (sym shape-alone)

  module _ (shape : Answer) (e : shape ≡ book_answer b) where
    pub twelfth-refused : is_accepted shape ≡ false → shape ≡ section_answer b 12
    twelfth-refused n = let m : is_accepted (book_answer b) ≡ false = ap is_accepted (sym e) ∙ n in rw m e

    module _ (g : is_accepted shape ≡ true) where
      shaped : is_accepted (book_answer b) ≡ true
      shaped = ap is_accepted (sym e) ∙ g

      pub twelfth-given : is_second b ≡ true → Accepted ≡ section_answer b 12
      twelfth-given s = rw (shaped, s)

      pub twelfth-lacking : is_second b ≡ false → NoSection ≡ section_answer b 12
      twelfth-lacking s = rw (shaped, s)

-- a number that names a section of a good book
pub record Numbered (b : List ℕ) (number : ℕ) : Type 0 where
  pub low : 1 ≤ number
  pub high : number - 1 < sections b
  pub shape : Good b

pub numbered : (b : List ℕ) (number : ℕ) → is_accepted (section_answer b number) ≡ true → Numbered b number
numbered b number = go (eqb number 0) refl (ltb 12 number) refl (is_accepted (book_answer b)) refl (ltb (sections b) number) refl
  where
    go : (z : Bool) → eqb number 0 ≡ z → (m : Bool) → ltb 12 number ≡ m → (t : Bool) → is_accepted (book_answer b) ≡ t → (x : Bool)
        → ltb (sections b) number ≡ x
        → is_accepted (cond z NoSection (cond m NoSection (cond t (cond x NoSection Accepted) (book_answer b)))) ≡ true → Numbered b number
    go true e m f t g x h a = no_way (sym a)
    go false e true f t g x h a = no_way (sym a)
    go false e false f false g x h a = no_way (sym a ∙ g)
    go false e false f true g true h a = no_way (sym a)
    go false e false f true g false h a =
        let n : (number ≡ 0 → ⊥) = eqb-false number 0 e in
        let k : number ≤ sections b = ltb-false (sections b) number h in
        record { low = omega arith; high = omega arith; shape = g }

-- a section by its place: the same stretch
pub place_is : (b : List ℕ) (number : ℕ) → section b number ≡ take (section_place b number).length (drop (section_place b number).start b)
place_is b number = go (is_accepted (section_answer b number)) refl
  where
    go : (t : Bool) → is_accepted (section_answer b number) ≡ t
        → section b number ≡ take (section_place b number).length (drop (section_place b number).start b)
    go true e = rw e
    go false e = rw e
