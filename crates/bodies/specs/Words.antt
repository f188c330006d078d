-- The lists of words that a book holds, and all of them in one list. Assumes nothing.
use Rattle.std.specs.Prelude.{ℕ, zero, suc, ◌*◌, ◌/◌, cond, List, [], ◌++◌, length}
use Rattle.lists.specs.Build.{build}
use Rattle.contents.specs.Contents.{word_at, is_bits}
use Rattle.book.specs.Book.{body}

-- bytes as words, "little-endian"
abbrev pub words_of_bytes : List ℕ → List ℕ
words_of_bytes bytes = build (λ j before. word_at bytes (8 * j)) (length bytes / 8)

-- the words of section i + 1; "2 and 10, the bits" are bytes and have none
abbrev pub list_of : List ℕ → ℕ → List ℕ
list_of b i = cond (is_bits i) [] (words_of_bytes (body b i))

-- the words of the first n sections, one after the other
unfoldable pub loaded : List ℕ → ℕ → List ℕ
loaded b zero = []
loaded b (suc i) = loaded b i ++ list_of b i
