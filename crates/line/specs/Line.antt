-- The line that `verdict` prints for an answer, as the bytes of its ASCII text (01, 'Section of a book'). Assumes nothing.
use Rattle.std.specs.Prelude.{ℕ, zero, suc, ◌+◌, ◌/◌, ◌%◌, cond, List, [], ◌∷◌, ◌++◌, eqb, ltb}
use Rattle.answers.specs.declared.Words.{Words}

-- a number below 10 ^ k in decimal: a digit `0` to `9` (48 to 57) alone, or the tenth of the number and then its last digit
unfoldable pub decimal_in : ℕ → ℕ → List ℕ
decimal_in zero n = []
decimal_in (suc k) n = cond (ltb n 10) ((48 + n) ∷ []) (decimal_in k (n / 10) ++ ((48 + n % 10) ∷ []))

-- a word, which is below 10 ^ 20
abbrev pub decimal : ℕ → List ℕ
decimal n = decimal_in 20 n

abbrev pub accepted : List ℕ
accepted = 97 ∷ 99 ∷ 99 ∷ 101 ∷ 112 ∷ 116 ∷ 101 ∷ 100 ∷ []

abbrev pub refused : List ℕ
refused = 114 ∷ 101 ∷ 102 ∷ 117 ∷ 115 ∷ 101 ∷ 100 ∷ []

abbrev pub space : List ℕ
space = 32 ∷ []

abbrev pub newline : List ℕ
newline = 10 ∷ []

-- "prints `accepted` or `refused`, number, place, detail, with spaces and a newline"; "acceptance is number 0"
abbrev pub line_of : Words → List ℕ
line_of w =
    cond (eqb w.number 0) (accepted ++ newline)
    (refused ++ (space ++ (decimal w.number ++ (space ++ (decimal w.place ++ (space ++ (decimal w.detail ++ newline)))))))
