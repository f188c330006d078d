-- The end of a walk and a Call as 01 has them, without the guards of lowering's `end_good` and `call_matches` that keep every read inside its list.
-- Assumes nothing.
use Rattle.std.specs.Prelude.{ℕ, ◌+◌, Bool, false, List, [], ◌∷◌, eqb, ltb, get_or}
use Rattle.lists.specs.Tests.{all, agree}
use Rattle.rows.specs.declared.Graph.TheVariants.{Target}
use Rattle.rows.specs.declared.Node.TheVariants.{Var}
use Rattle.rows.specs.Row.{row_count, row_at}
use Rattle.rows.specs.Tags.{either}
use Rattle.lowering.specs.declared.Walk.{Walk}
use Rattle.lowering.specs.declared.Walk.TheVariants.{RanOut, Met, Lost}
use Rattle.lowering.specs.Images.{map_at, row_is}
use Rattle.lowering.specs.Matching.{Noted}

-- "A walk that runs out needs a read variable of class 2 or 4 whose entry names this array and the mapped index"
unfoldable pub end_bare : List ℕ → List ℕ → List ℕ → Noted → ℕ → ℕ → Walk → Bool
end_bare map reads target N a j (RanOut r) =
    let o = get_or N.offsets r 0 in
    all
    (ltb r (row_count Target target)
    ∷ either (get_or N.classes r 0) 2 4
    ∷ eqb (get_or reads (o + 1) 0) a
    ∷ eqb (get_or reads (o + 2) 0) (map_at map j)
    ∷ [])
end_bare map reads target N a j (Met r v) = eqb r (map_at map v)
end_bare map reads target N a j Lost = false

-- "image is a Var of the call's width, class 3 or 5, its entry naming function, count and mapped arguments", here xs
unfoldable pub call_bare : List ℕ → List ℕ → List ℕ → Noted → ℕ → ℕ → ℕ → (ℕ → ℕ) → ℕ → Bool
call_bare calls cargs target N f w k xs r =
    let o = get_or N.offsets r 0 in
    all
    (row_is (row_at Target target r) (Var w)
    ∷ either (get_or N.classes r 0) 3 5
    ∷ eqb (get_or calls (o + 1) 0) f
    ∷ eqb (get_or calls (o + 3) 0) k
    ∷ agree xs (λ l. get_or cargs (get_or calls (o + 2) 0 + l) 0) k
    ∷ [])
