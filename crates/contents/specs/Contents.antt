-- The words of a book and its table of contents (01, 'Section of a book'; 02, 2.9). Assumes nothing.
use Rattle.std.specs.Prelude.{ℕ, ◌+◌, ◌*◌, Bool, true, cond, List, ◌==◌, slice_index}

-- "A book is little-endian": the word whose lowest byte stands at a place
abbrev pub word_at : List ℕ → ℕ → ℕ
word_at b at =
    slice_index b at
    + 256 * (slice_index b (at + 1) + 256 * (slice_index b (at + 2) + 256 * (slice_index b (at + 3) + 256 * (slice_index b (at + 4)
    + 256 * (slice_index b (at + 5) + 256 * (slice_index b (at + 6) + 256 * slice_index b (at + 7)))))))

-- "a table of contents .., each start and length in bytes, one word each"; entry i is section i + 1's
abbrev pub start_of : List ℕ → ℕ → ℕ
start_of b i = word_at b (16 * i)

abbrev pub length_of : List ℕ → ℕ → ℕ
length_of b i = word_at b (16 * i + 8)

-- "A book of the second edition has twelve contents entries, so its first body starts at 192"
abbrev pub is_second : List ℕ → Bool
is_second b = start_of b 0 == 192

-- how many entries a book's table of contents has ("eleven entries" in the first edition), and its bytes
abbrev pub sections : List ℕ → ℕ
sections b = cond (is_second b) 12 11

abbrev pub contents : List ℕ → ℕ
contents b = 16 * sections b

-- "2 and 10, the bits"
abbrev pub is_bits : ℕ → Bool
is_bits i = cond (i == 1) true (i == 9)
