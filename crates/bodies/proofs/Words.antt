-- The words of a book: how many there are, and where each section's stand. Assumes nothing.
use Prim.Native.Nat.{ℕ, zero, suc, ◌+◌, ◌-◌, ◌*◌, ◌/◌, ◌%◌, ◌≤◌, ◌<◌, zero-le}
use mathlib.Core.Path.{◌≡◌, refl, sym, ap, ◌∙◌}
use mathlib.Core.Bool.{Bool, true, false}
use mathlib.Core.List.{List, [], ◌++◌, append_assoc, append-nil}
use native.Mathlib.Nat.{add-zero}
use native.Mathlib.Omega.{arith}
use lib.ListN.{length, set, take, drop, replicate, length-append, length-take, length-drop, take-append-drop}
use lib.Seq.{take_at, drop_at, drop-drop, drop-append-add, drop-length, length-take-le}
use borrow.Rule.Slice.PartMut.{mid_of, post_of, put_mid, Post-is, mid_len}
use Rattle.lists.specs.Build.{build}
use Rattle.lists.proofs.Build.{build-length, build-start, build-store}
use Rattle.contents.specs.Contents.{word_at, sections, contents, start_of, length_of, is_bits}
use Rattle.book.specs.Book.{due_at, body}
use Rattle.bodies.specs.Words.{words_of_bytes, list_of, loaded}
use Rattle.book.specs.Good.{Good}
use Rattle.book.proofs.Shape.{good_book}

-- bytes have a word for each eight
pub words-length : (bytes : List ℕ) → length (words_of_bytes bytes) ≡ length bytes / 8
words-length bytes = build-length (λ j before. word_at bytes (8 * j)) (length bytes / 8)

-- a section is no longer than its book, nor is the list of its words, whatever the contents say
pub list-short : (b : List ℕ) (i : ℕ) → length (list_of b i) ≤ length b
list-short b i = go (is_bits i) refl
  where
    go : (t : Bool) → is_bits i ≡ t → length (list_of b i) ≤ length b
    go true e = rw e zero-le
    go false e =
        let c : length (list_of b i) ≡ length (body b i) / 8 = rw (e, words-length (body b i)) in
        let t = length-take (length_of b i) (drop (start_of b i) b) in
        let d : length (drop (start_of b i) b) ≡ length b - start_of b i = length-drop (start_of b i) b in
        omega arith

module _ (b : List ℕ) (g : Good b) where
  pub body-length : (i : ℕ) → i < sections b → length (body b i) ≡ length_of b i
  body-length i h =
      let w : start_of b i + length_of b i ≤ length b = ((good_book b g).each i h).within in
      let d : length (drop (start_of b i) b) ≡ length b - start_of b i = length-drop (start_of b i) b in
      length-take-le (length_of b i) (drop (start_of b i) b) (omega arith)

  pub words_count : (i : ℕ) → i < sections b → is_bits i ≡ false → length (list_of b i) ≡ length_of b i / 8
  words_count i h t = rw (t, words-length (body b i), body-length i h)

  -- no byte of a section of words is left out
  pub words-whole : (i : ℕ) → i < sections b → is_bits i ≡ false → 8 * length (list_of b i) ≡ length (body b i)
  words-whole i h t =
      let c : length (list_of b i) ≡ length_of b i / 8 = words_count i h t in
      let l : length (body b i) ≡ length_of b i = body-length i h in
      let w : length_of b i % 8 ≡ 0 = ((good_book b g).each i h).whole t in
      omega arith

  list-bound : (i : ℕ) → i < sections b → 8 * length (list_of b i) ≤ length_of b i
  list-bound i h = go (is_bits i) refl
    where
      go : (t : Bool) → is_bits i ≡ t → 8 * length (list_of b i) ≤ length_of b i
      go true e = rw e zero-le
      go false e = let c : length (list_of b i) ≡ length_of b i / 8 = words_count i h e in omega arith

  -- eight bytes a word, after the contents
  pub loaded-bound : (i : ℕ) → i ≤ sections b → contents b + 8 * length (loaded b i) ≤ due_at b i
  unfolding loaded
  loaded-bound zero h = omega arith
  loaded-bound (suc i) h =
      let r : contents b + 8 * length (loaded b i) ≤ due_at b i = loaded-bound i (omega arith) in
      let l : 8 * length (list_of b i) ≤ length_of b i = list-bound i h in
      let s : start_of b i ≡ due_at b i = ((good_book b g).each i h).starts in
      let a : length (loaded b i ++ list_of b i) ≡ length (loaded b i) + length (list_of b i) = length-append (loaded b i) (list_of b i) in
      omega arith

  due-within : (i : ℕ) → i ≤ sections b → due_at b i ≤ length b
  due-within zero h = (good_book b g).long
  due-within (suc i) h = ((good_book b g).each i h).within

  -- so there are fewer words than bytes
  pub loaded-fits : (i : ℕ) → i ≤ sections b → length (loaded b i) ≤ length b
  loaded-fits i h =
      let x : contents b + 8 * length (loaded b i) ≤ due_at b i = loaded-bound i h in
      let y : due_at b i ≤ length b = due-within i h in
      omega arith

-- words put into a list one after the other
module _ (bytes old : List ℕ) where
  abbrev pub read : ℕ → List ℕ
  read j = build (λ (k : ℕ) (before : List ℕ). word_at bytes (8 * k)) j ++ drop j old

  pub read_none : old ≡ read 0
  read_none = build-start (λ (k : ℕ) (before : List ℕ). word_at bytes (8 * k)) old

  pub read_more : (out : List ℕ) (j x : ℕ) → out ≡ read j → x ≡ word_at bytes (8 * j) → j < length old → set out j x ≡ read (j + 1)
  read_more out j x e w h = rw (e, w) (build-store (λ (k : ℕ) (before : List ℕ). word_at bytes (8 * k)) old 0 j h)

  pub read_all : (out : List ℕ) (j n : ℕ) → n ≡ length bytes / 8 → j ≤ n → n ≤ j → out ≡ read j
      → out ≡ words_of_bytes bytes ++ drop (length bytes / 8) old
  read_all out j n e h l f = let k : j ≡ length bytes / 8 = omega arith in f ∙ ap read k

-- where a section's words stand among all
module _ (b : List ℕ) where
  pub loaded-none : 0 ≡ length (loaded b 0)
  unfolding loaded
  loaded-none = refl

  pub loaded-more : (i : ℕ) → length (loaded b (suc i)) ≡ length (loaded b i) + length (list_of b i)
  unfolding loaded
  loaded-more i = length-append (loaded b i) (list_of b i)

  pub offset-more : (at w i : ℕ) → at ≡ length (loaded b i) → w ≡ length (list_of b i) → at + w ≡ length (loaded b (i + 1))
  offset-more at w i e f = let n : i + 1 ≡ suc i = omega arith in rw (e, f) (sym (ap (λ (k : ℕ). length (loaded b k)) n ∙ loaded-more i))

  later : (k i : ℕ) → (more : List ℕ) × (loaded b (suc i + k) ≡ loaded b i ++ (list_of b i ++ more))
  unfolding loaded
  later zero i = ([], rw (add-zero, append-nil))
  later (suc k) i =
      let r = later k i in
      let e : suc i + suc k ≡ suc (suc i + k) = omega arith in
      (r.0 ++ list_of b (suc i + k), rw (e, r.1, append_assoc, append_assoc))

  pub loaded-below : (n i : ℕ) → i < n → length (loaded b i) + length (list_of b i) ≤ length (loaded b n)
  loaded-below n i h =
      let e : n ≡ suc i + (n - suc i) = omega arith in
      let r = later (n - suc i) i in
      let a : length (loaded b n) ≡ length (loaded b i) + (length (list_of b i) + length r.0) =
      ap (λ (k : ℕ). length (loaded b k)) e ∙ rw (r.1, length-append, length-append) in
      omega arith

  pub list-within : (n i : ℕ) (rest : List ℕ) → i < n → take (length (list_of b i)) (drop (length (loaded b i)) (loaded b n ++ rest)) ≡ list_of b i
  list-within n i rest h =
      let e : n ≡ suc i + (n - suc i) = omega arith in
      let r = later (n - suc i) i in
      let a : loaded b n ++ rest ≡ loaded b i ++ (list_of b i ++ (r.0 ++ rest)) =
      ap (λ (l : List ℕ). l ++ rest) (ap (loaded b) e ∙ r.1) ∙ rw (append_assoc, append_assoc) in
      rw (a, drop_at (loaded b i) (list_of b i ++ (r.0 ++ rest)) (length (loaded b i)) refl)
      (take_at (list_of b i) (r.0 ++ rest) (length (list_of b i)) refl)

-- a list that is changed from a place on: a front part in place of the first k there
mid-whole : (a : ℕ) (xs : List ℕ) → a ≤ length xs → mid_of a (length xs - a) xs ≡ drop a xs
mid-whole a xs h =
    let p : post_of a (length xs - a) xs ≡ [] = Post-is a (length xs) xs h ∙ drop-length xs in
    sym (append-nil (mid_of a (length xs - a) xs)) ∙ ap (λ (l : List ℕ). mid_of a (length xs - a) xs ++ l) (sym p)
    ∙ take-append-drop (length xs - a) (drop a xs)

put_front : (a k : ℕ) (xs ys front : List ℕ) → a ≤ length xs → ys ≡ front ++ drop k (mid_of a (length xs - a) xs)
    → put_mid a (length xs - a) xs ys ≡ take a xs ++ (front ++ drop (a + k) xs)
put_front a k xs ys front h e =
    let f : ys ≡ front ++ drop (a + k) xs = e ∙ rw (mid-whole a xs h, drop-drop) in
    rw (f, Post-is a (length xs) xs h, drop-length, append-nil)

module _ (b : List ℕ) (i : ℕ) (old : List ℕ) where
  abbrev n : ℕ
  n = length (loaded b i)

  abbrev m : ℕ
  m = length (list_of b i)

  -- the list with section i + 1's words after those of the sections before
  abbrev pub joined : List ℕ
  joined = take n old ++ (list_of b i ++ drop (n + m) old)

  pub bits-joined : is_bits i ≡ true → old ≡ joined
  bits-joined t = let l : list_of b i ≡ [] = rw t in rw (l, add-zero) (sym (take-append-drop n old))

  module _ (g : Good b) (h : i < sections b) (r : n + m ≤ length old) (at : ℕ) (e : at ≡ n) (bytes : List ℕ) (f : bytes ≡ body b i)
      (t : is_bits i ≡ false) where
    words_are : words_of_bytes bytes ≡ list_of b i
    words_are = rw (t, f)

    eighth : length bytes / 8 ≡ m
    eighth = sym (words-length bytes) ∙ ap (λ (l : List ℕ). length l) words_are

    pub words-room : length bytes / 8 ≤ length (mid_of at (length old - at) old)
    words-room =
        let l : length (mid_of at (length old - at) old) ≡ length old - at = mid_len at (length old) old (omega arith) in
        let q : length bytes / 8 ≡ m = eighth in
        omega arith

    pub words-joined : (ys : List ℕ) → ys ≡ words_of_bytes bytes ++ drop (length bytes / 8) (mid_of at (length old - at) old)
        → put_mid at (length old - at) old ys ≡ joined
    words-joined ys q = put_front at (length bytes / 8) old ys (words_of_bytes bytes) (omega arith) q ∙ rw (words_are, eighth, e)

-- sections loaded one after the other
module _ (b old : List ℕ) where
  abbrev pub filled : ℕ → List ℕ
  filled i = loaded b i ++ drop (length (loaded b i)) old

  pub filled_none : old ≡ filled 0
  unfolding loaded
  filled_none = refl

  pub filled_more : (i : ℕ) (ws out : List ℕ) → ws ≡ filled i → out ≡ joined b i ws → out ≡ filled (i + 1)
  unfolding loaded
  filled_more i ws out e f =
      let n = length (loaded b i) in
      let m = length (list_of b i) in
      let s : loaded b (i + 1) ≡ loaded b i ++ list_of b i = (let q : i + 1 ≡ suc i = omega arith in ap (loaded b) q) in
      let a : take n ws ≡ loaded b i = rw e (take_at (loaded b i) (drop n old) n refl) in
      let d : drop (n + m) ws ≡ drop (n + m) old = rw e (drop-append-add (loaded b i) (drop n old) m ∙ drop-drop m n old) in
      f ∙ rw (a, d, s, length-append) (sym (append_assoc (loaded b i) (list_of b i) (drop (n + m) old)))

  -- what stands after the words is what stood there
  pub filled-rest : (i : ℕ) (ws : List ℕ) → ws ≡ filled i → ws ≡ loaded b i ++ drop (length (loaded b i)) ws
  filled-rest i ws e =
      let r : drop (length (loaded b i)) ws ≡ drop (length (loaded b i)) old =
      rw e (drop_at (loaded b i) (drop (length (loaded b i)) old) (length (loaded b i)) refl) in
      e ∙ ap (λ (l : List ℕ). loaded b i ++ l) (sym r)

-- the part of a list where section i + 1's words stand
pub record Part (b : List ℕ) (i : ℕ) (ws : List ℕ) (from end : ℕ) : Type 0 where
  pub ordered : from ≤ end
  pub inside : end ≤ length ws
  pub part-is : take (end - from) (drop from ws) ≡ list_of b i

pub part : (b ws : List ℕ) (i from end : ℕ) → i < sections b → ws ≡ loaded b (sections b) ++ drop (length (loaded b (sections b))) ws
    → from ≡ length (loaded b i) → end ≡ length (loaded b (i + 1))
    → Part b i ws from end
part b ws i from end h e f g =
    let r = drop (length (loaded b (sections b))) ws in
    let k : end ≡ length (loaded b i) + length (list_of b i) = g ∙ sym (offset-more b _ _ i refl refl) in
    let l : length ws ≡ length (loaded b (sections b)) + length r = ap (λ (l : List ℕ). length l) e ∙ length-append (loaded b (sections b)) r in
    let t : length (loaded b i) + length (list_of b i) ≤ length (loaded b (sections b)) = loaded-below b (sections b) i h in
    let d : end - from ≡ length (list_of b i) = omega arith in
    record {
      ordered = omega arith;
      inside = omega arith;
      part-is = rw (d, f, e) (list-within b (sections b) i r h);
    }

-- a list that holds a book's words has room for them
pub words_inside : (b ws : List ℕ) → ws ≡ loaded b (sections b) ++ drop (length (loaded b (sections b))) ws
    → length (loaded b (sections b)) ≤ length ws
words_inside b ws e =
    let r = drop (length (loaded b (sections b))) ws in
    let l : length ws ≡ length (loaded b (sections b)) + length r = ap (λ (l : List ℕ). length l) e ∙ length-append (loaded b (sections b)) r in
    omega arith

-- words that stand in front, zeros after them
pub words-cleared : (w rest ws after : List ℕ) (n : ℕ) → ws ≡ w ++ rest → n ≡ length w → after ≡ take n ws ++ replicate (length ws - n) 0
    → after ≡ w ++ replicate (length ws - length w) 0
words-cleared w rest ws after n e f g =
    let t : take n ws ≡ w = ap (take n) e ∙ rw f (take_at w rest (length w) refl) in
    g ∙ rw (t, f)
