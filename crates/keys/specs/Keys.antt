-- The key of an entry, at the entry's offset.
-- Inner: contracts within the code cite it; no answer's definition does. Assumes nothing.
use Rattle.std.specs.Prelude.{ℕ, ◌+◌, ◌<◌, ◌≤◌, Bool, List, [], ◌∷◌, eqb, length, get_or}
use Rattle.lists.specs.Tests.{all, agree}
use Rattle.lowering.specs.Tables.{call_start, arg_count}

-- the read entry at an offset has this key
abbrev pub read_is : List ℕ → ℕ → ℕ → ℕ → Bool
read_is reads off array index = all (eqb (get_or reads (off + 1) 0) array ∷ eqb (get_or reads (off + 2) 0) index ∷ [])

-- the call entry at an offset has this function number, count and result width
abbrev pub function_is : List ℕ → List ℕ → ℕ → ℕ → ℕ → ℕ → Bool
function_is calls ws off f n w =
    all (eqb (get_or calls (off + 1) 0) f ∷ eqb (get_or calls (off + 3) 0) n ∷ eqb (get_or ws (get_or calls off 0) 0) w ∷ [])

-- two stretches of n arguments are one
abbrev pub args_eq : List ℕ → ℕ → ℕ → ℕ → Bool
args_eq cargs s t n = agree (λ l. get_or cargs (s + l) 0) (λ l. get_or cargs (t + l) 0) n

-- the call entry at an offset has these and the n arguments from s on
abbrev pub call_is : List ℕ → List ℕ → List ℕ → ℕ → ℕ → ℕ → ℕ → ℕ → Bool
call_is calls cargs ws off f s n w = all (function_is calls ws off f n w ∷ args_eq cargs (get_or calls (off + 2) 0) s n ∷ [])

-- two stretches of n arguments have the same widths
abbrev pub arg_widths_eq : List ℕ → List ℕ → ℕ → ℕ → ℕ → Bool
arg_widths_eq cargs ws s t n = agree (λ l. get_or ws (get_or cargs (s + l) 0) 0) (λ l. get_or ws (get_or cargs (t + l) 0) 0) n

-- the call entries at two offsets are of one function: `same_function` at the offsets
abbrev pub functions_agree : List ℕ → List ℕ → List ℕ → ℕ → ℕ → Bool
functions_agree calls cargs ws p q =
    all
    (function_is calls ws p (get_or calls (q + 1) 0) (get_or calls (q + 3) 0) (get_or ws (get_or calls q 0) 0)
    ∷ arg_widths_eq cargs ws (get_or calls (p + 2) 0) (get_or calls (q + 2) 0) (get_or calls (q + 3) 0)
    ∷ [])

-- the arguments of the call entry at an offset lie in the argument list
abbrev pub ArgsAt : List ℕ → List ℕ → ℕ → Type 0
ArgsAt calls cargs off = get_or calls (off + 2) 0 + get_or calls (off + 3) 0 ≤ length cargs

-- the arguments of the entries before k lie in the argument list
abbrev pub ArgsInside : List ℕ → List ℕ → ℕ → Type 0
ArgsInside calls cargs k = (l : ℕ) → l < k → call_start calls l + arg_count calls l ≤ length cargs
