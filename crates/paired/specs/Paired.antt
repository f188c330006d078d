-- When Check, or the strict check, of either edition answers a case as it expects: the number, place and detail, and its four lent lists. Assumes
-- nothing.
use Rattle.std.specs.Prelude.{ℕ, ◌+◌, ◌≡◌, Bool, true, cond, List, [], ◌∷◌}
use Rattle.sorts.specs.Sorts.{edition}
use Rattle.answers.specs.Result.{Result, told, told_of}
use Rattle.lowering.specs.Lowering.{lowering_in}
use Rattle.lowering.specs.Check.{check_by}
use Rattle.cases.specs.Case.{given, answer, expected, has_shape}

-- either check of either edition on a case's lists, with these bits and lent lists; a second edition's sorts are list 11
abbrev pub check_of : Bool → Bool → List ℕ → List ℕ → List ℕ → List ℕ → List ℕ → List ℕ → List ℕ → Result
check_of strict second w ebits tbits ws0 ws1 classes entries =
    check_by strict
    (lowering_in (edition second (given w 11)) (given w 0) ebits (given w 2) (given w 3) (given w 4) (given w 5) (given w 6) (given w 7) (given w 8)
    tbits (given w 10)) ws0 ws1 classes entries

abbrev pub SameCheck : Bool → Bool → List ℕ → List ℕ → List ℕ → List ℕ → List ℕ → List ℕ → List ℕ → Type 0
SameCheck strict second w ebits tbits ws0 ws1 classes entries =
    told_of (check_of strict second w ebits tbits ws0 ws1 classes entries)
    ≡ told (answer w) (expected w 0 ∷ expected w 1 ∷ expected w 2 ∷ expected w 3 ∷ [])

-- the lent lists come last: behind the eleven lists, and behind the sorts
abbrev pub lent_at : Bool → ℕ
lent_at second = cond second 12 11

-- the bits are lists 1 and 9
abbrev pub CheckAgrees : Bool → Bool → List ℕ → Type 0
CheckAgrees strict second w =
    let at = lent_at second in
    (has_shape w (at + 4) 4 ≡ true)
    × SameCheck strict second w (given w 1) (given w 9) (given w at) (given w (at + 1)) (given w (at + 2)) (given w (at + 3))
