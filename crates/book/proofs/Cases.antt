-- Books of both editions computed: the empty book, each place of 20 but the program's own, section numbers. Assumes nothing.
use Prim.Native.Nat.{ℕ, zero, suc}
use mathlib.Core.Path.{◌≡◌, refl}
use mathlib.Core.List.{List, [], ◌∷◌, ◌++◌}
use Rattle.answers.specs.Answer.{Accepted, BookShape, NoSection}
use Rattle.lists.specs.First.{first}
use Rattle.book.specs.Book.{book_answer, section_answer, section_place, section}

-- a word below 256, an entry of the contents, so many copies of it
abbrev word : ℕ → List ℕ
word n = n ∷ 0 ∷ 0 ∷ 0 ∷ 0 ∷ 0 ∷ 0 ∷ 0 ∷ []

abbrev pub entry : ℕ → ℕ → List ℕ
entry start len = word start ++ word len

unfoldable pub copies : ℕ → List ℕ → List ℕ
copies zero e = []
copies (suc n) e = e ++ copies n e

-- "The book of eleven empty bodies, each start 176"; "Empty input"
empty-book : book_answer (copies 11 (entry 176 0)) ≡ Accepted
unfolding first copies
empty-book = refl

no-book : book_answer [] ≡ BookShape 0
unfolding first copies
no-book = refl

-- one byte short, one byte left over
cut-book : book_answer (copies 10 (entry 176 0) ++ (word 176 ++ (0 ∷ 0 ∷ 0 ∷ 0 ∷ 0 ∷ 0 ∷ 0 ∷ []))) ≡ BookShape 0
unfolding first copies
cut-book = refl

left_over_lem : book_answer (copies 11 (entry 176 0) ++ (7 ∷ [])) ≡ BookShape 12
unfolding first copies
left_over_lem = refl

-- a gap, a stretch past the end, no whole words; bits need none
late-start : book_answer (entry 177 0 ++ copies 10 (entry 176 0)) ≡ BookShape 1
unfolding first copies
late-start = refl

past_end : book_answer (copies 10 (entry 176 0) ++ entry 176 8) ≡ BookShape 11
unfolding first copies
past_end = refl

half-word : book_answer (copies 2 (entry 176 0) ++ (entry 176 4 ++ (copies 8 (entry 180 0) ++ (1 ∷ 2 ∷ 3 ∷ 4 ∷ [])))) ≡ BookShape 3
unfolding first copies
half-word = refl

-- a start and a length whose sum passes 2 ^ 64
wrapped : book_answer (copies 10 (entry 176 0) ++ (word 176 ++ (80 ∷ 255 ∷ 255 ∷ 255 ∷ 255 ∷ 255 ∷ 255 ∷ 255 ∷ []))) ≡ BookShape 11
unfolding first copies
wrapped = refl

-- the second edition: twelve empty bodies, each start 192
empty-second : book_answer (copies 12 (entry 192 0)) ≡ Accepted
unfolding first copies
empty-second = refl

-- "under 192 bytes is place 0": one byte short, and 176 bytes
cut-second : book_answer (copies 11 (entry 192 0) ++ (word 192 ++ (0 ∷ 0 ∷ 0 ∷ 0 ∷ 0 ∷ 0 ∷ 0 ∷ []))) ≡ BookShape 0
unfolding first copies
cut-second = refl

eleven-second : book_answer (copies 11 (entry 192 0)) ≡ BookShape 0
unfolding first copies
eleven-second = refl

-- "left-over bytes are place 14"
left-over-second : book_answer (copies 12 (entry 192 0) ++ (7 ∷ [])) ≡ BookShape 14
unfolding first copies
left-over-second = refl

-- "any other first start is 20 at section 1"
third-start : book_answer (copies 13 (entry 208 0)) ≡ BookShape 1
unfolding first copies
third-start = refl

-- a first edition's contents with section 2 where a second edition's would start
second-start : book_answer (entry 176 0 ++ copies 11 (entry 192 0)) ≡ BookShape 2
unfolding first copies
second-start = refl

-- section 12 is held to whole words
half-sort : book_answer (copies 11 (entry 192 0) ++ (entry 192 4 ++ (1 ∷ 2 ∷ 3 ∷ 4 ∷ []))) ≡ BookShape 12
unfolding first copies
half-sort = refl

-- a book with three bits in section 2 and a root in section 11
abbrev pub small : List ℕ
small = entry 176 0 ++ (entry 176 3 ++ (copies 8 (entry 179 0) ++ (entry 179 8 ++ (1 ∷ 0 ∷ 1 ∷ (2 ∷ 1 ∷ 0 ∷ 0 ∷ 0 ∷ 0 ∷ 0 ∷ 0 ∷ [])))))

small-good : book_answer small ≡ Accepted
unfolding first copies
small-good = refl

small-bits : section small 2 ≡ 1 ∷ 0 ∷ 1 ∷ []
unfolding first copies
small-bits = refl

-- one of the second edition, with a bit in section 10, a root in section 11 and array 7 of 16-bit indices and cells in section 12
abbrev pub sorted : List ℕ
sorted = copies 9 (entry 192 0) ++ (entry 192 1 ++ (entry 193 8 ++ (entry 201 24 ++ (1 ∷ (word 2 ++ (word 7 ++ (word 16 ++ word 16)))))))

sorted-good : book_answer sorted ≡ Accepted
unfolding first copies
sorted-good = refl

sorted-twelfth : section sorted 12 ≡ word 7 ++ (word 16 ++ word 16)
unfolding first copies
sorted-twelfth = refl

sorted-place : section_place sorted 12 ≡ record { start = 201; length = 24 }
unfolding first copies
sorted-place = refl

-- "24 NoSection for a number outside 1 to 11 [12]", also of no book
no-section : section_answer [] 0 ≡ NoSection
no-section = refl

no-section-13 : section_answer sorted 13 ≡ NoSection
unfolding first copies
no-section-13 = refl

-- "Section 12 of a first-edition book is 24, after its shape is found good"
no-section-12 : section_answer small 12 ≡ NoSection
unfolding first copies
no-section-12 = refl

damaged-12 : section_answer (copies 11 (entry 176 0) ++ (7 ∷ [])) 12 ≡ BookShape 12
unfolding first copies
damaged-12 = refl

shape-after : (section_answer [] 11 ≡ BookShape 0) × (section_answer [] 12 ≡ BookShape 0)
unfolding first copies
shape-after = (refl, refl)
