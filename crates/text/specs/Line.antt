-- A line's words: lower-case hexadecimal numbers with single spaces between, no 0 in front of other digits. Assumes nothing.
use Rattle.std.specs.Prelude.{ℕ, zero, suc, ◌+◌, ◌-◌, ◌*◌, ◌%◌, ◌^◌, Bool, true, false, cond, not, List, [], ◌∷◌, ◌++◌, length, take, drop, ◌==◌}
use Rattle.std.specs.Prelude.{nat_le, nat_lt, slice_index, fold, Option, None, Some, is_none}
use Rattle.std.specs.List.{position_or_len}
use Rattle.std.specs.Option.{unwrap_or}
use Rattle.text.specs.declared.Token.{Token}

-- the value of a digit, 0 to 9 (48 to 57) or a to f (97 to 102)
unfoldable pub digit_of : ℕ → Option ℕ
digit_of b =
    cond (nat_lt b 48) None
    (cond (nat_le b 57) (Some (b - 48))
    (cond (nat_lt b 97) None
    (cond (nat_le b 102) (Some (b - 97 + 10)) None)))

-- how many digits stand in front
abbrev pub digits : List ℕ → ℕ
digits l = position_or_len (λ b. is_none (digit_of b)) l

-- the value of digits behind those of v; sixteen digits fill 64 bits
abbrev pub number : ℕ → List ℕ → ℕ
number v l = fold (λ u b. (u * 16 + unwrap_or (digit_of b) 0) % 2 ^ 64) v l

-- one to sixteen digits, the first of several no 0 (48)
unfoldable pub good_digits : ℕ → ℕ → Bool
good_digits n b = cond (n == 0) false (cond (n == 1) true (cond (nat_lt 16 n) false (not (b == 48))))

-- the line's end or a space (32)
unfoldable pub word_ends : List ℕ → ℕ → Bool
word_ends line end = cond (nat_le (length line) end) true (slice_index line end == 32)

-- the word at a place, and where the next one starts
unfoldable pub token : List ℕ → ℕ → Option Token
token line at =
    cond (good_digits (digits (drop at line)) (slice_index line at))
    (cond (word_ends line (at + digits (drop at line)))
    (Some (record { value = number 0 (take (digits (drop at line)) (drop at line)); next = at + digits (drop at line) + 1 }))
    None)
    None

-- what a word, if there is one, gives; else nothing
abbrev pub if_word : Option Token → (Token → List ℕ) → List ℕ
if_word None then = []
if_word (Some t) then = then t

-- the words from a place on, behind those of front; none where one is malformed or more than so many come
unfoldable pub words_from : ℕ → List ℕ → ℕ → List ℕ → List ℕ
words_from zero line at front = []
words_from (suc k) line at front =
    if_word (token line at)
    (λ t. cond (nat_lt (length line) t.next) (front ++ (t.value ∷ [])) (words_from k line t.next (front ++ (t.value ∷ []))))

-- a line's words, with room for so many
abbrev pub words_in : ℕ → List ℕ → List ℕ
words_in room line = words_from room line 0 []
