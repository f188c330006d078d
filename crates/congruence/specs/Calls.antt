-- What a call table that has passed says of its entries, and a well-formed target of its Eq rows.
-- Inner: contracts within the code cite it; no answer's definition does. Assumes nothing.
use Rattle.std.specs.Prelude.{ℕ, ◌+◌, ◌*◌, ◌<◌, ◌≤◌, ◌≡◌, true, List, length, get_or}
use Rattle.lowering.specs.Tables.{call_count, call_start, arg_count}
use Rattle.lowering.specs.Matching.{is_eq}

-- every entry is whole and its arguments lie in their list
abbrev pub CallsIn : List ℕ → List ℕ → Type 0
CallsIn calls cargs = (k : ℕ) → k < call_count calls → (k * 4 + 4 ≤ length calls) × (call_start calls k + arg_count calls k ≤ length cargs)

-- the operands of an Eq row have one width
abbrev pub EqsEven : List ℕ → List ℕ → Type 0
EqsEven target ws = (a b r : ℕ) → is_eq target a b r ≡ true → get_or ws a 0 ≡ get_or ws b 0
