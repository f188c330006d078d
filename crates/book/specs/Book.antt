-- Books and their sections (01, 'Section of a book'; 02, 2.9). Assumes nothing.
use Rattle.std.specs.Prelude.{ℕ, zero, suc, ◌+◌, ◌-◌, ◌%◌, Bool, true, false, not, cond, List, [], eqb, ltb, length, take, drop}
use Rattle.answers.specs.Answer.{Answer}
use Rattle.answers.specs.Answer.{Accepted, BookShape, NoSection}
use Rattle.answers.specs.Answer.{is_accepted, and_then}
use Rattle.lists.specs.First.{first}
use Rattle.contents.specs.Contents.{start_of, length_of, is_second, sections, contents, is_bits}
use Rattle.book.specs.declared.Stretch.{Stretch}

-- where section i + 1 ends
abbrev pub end_of : List ℕ → ℕ → ℕ
end_of b i = start_of b i + length_of b i

-- "the first at 176 [192 in the second edition], without gaps": where section i + 1 must start, and for i = sections where the book must end
abbrev pub due_at : List ℕ → ℕ → ℕ
due_at b zero = contents b
due_at b (suc i) = end_of b i

-- "section that doesn't start where the last ended, runs past the end, or (all but 2 and 10, the bits) isn't whole words"
abbrev pub bad_section : List ℕ → ℕ → Bool
bad_section b i =
    cond (not (eqb (start_of b i) (due_at b i))) true
    (cond (ltb (length b) (end_of b i)) true (cond (is_bits i) false (not (eqb (length_of b i % 8) 0))))

abbrev pub first_bad : List ℕ → ℕ
first_bad b = first (bad_section b) (sections b)

-- "12 for bytes left over"; "In the second edition left-over bytes are place 14"
abbrev pub left_over : List ℕ → ℕ
left_over b = cond (is_second b) 14 12

-- "20's place: 0 under 176 bytes" (in the second edition "under 192 bytes is place 0"); "the first section that .."; bytes left over. With another
-- first start than 192 section 1 is due at 176, so that "any other first start is 20 at section 1"
abbrev pub book_answer : List ℕ → Answer
book_answer b =
    cond (ltb (length b) (contents b)) (BookShape 0)
    (cond (ltb (first_bad b) (sections b)) (BookShape (first_bad b + 1))
    (cond (eqb (due_at b (sections b)) (length b)) Accepted (BookShape (left_over b))))

-- "24 NoSection for a number outside 1 to 11 [12, with the second edition]; then 20 BookShape"; "Section 12 of a first-edition book is 24, after
-- its shape is found good"
abbrev pub section_answer : List ℕ → ℕ → Answer
section_answer b number =
    cond (eqb number 0) NoSection
    (cond (ltb 12 number) NoSection
    (and_then (book_answer b) (cond (ltb (sections b) number) NoSection Accepted)))

-- "The answer is that stretch of the caller's book": section i + 1
abbrev pub body : List ℕ → ℕ → List ℕ
body b i = take (length_of b i) (drop (start_of b i) b)

-- where that stretch stands in the book, for callers that take numbers; 0 and 0 on refusal
abbrev pub section_place : List ℕ → ℕ → Stretch
section_place b number =
    cond (is_accepted (section_answer b number)) (record { start = start_of b (number - 1); length = length_of b (number - 1) })
    (record { start = 0; length = 0 })

-- "A refusal gives an empty stretch"
abbrev pub section : List ℕ → ℕ → List ℕ
section b number = cond (is_accepted (section_answer b number)) (body b (number - 1)) []
