-- Roots and congruence (01, 'How a row is matched', from "The first target roots" on). Assumes nothing.
use Rattle.std.specs.Prelude.{ℕ, zero, suc, ◌+◌, ◌-◌, Bool, cond, not, List, [], ◌∷◌, ◌++◌, eqb, ltb, length, get_or}
use Rattle.lists.specs.First.{first}
use Rattle.lists.specs.Tests.{all}
use Rattle.rows.specs.declared.Graph.TheVariants.{Target}
use Rattle.rows.specs.Row.{MAX, row_count, row_at}
use Rattle.rows.specs.Tags.{t_not, t_bool_and, t_bool_or}
use Rattle.lowering.specs.Images.{map_at, tag_at, field_at, unequal_const}
use Rattle.lowering.specs.Tables.{read_count, read_var, read_array, read_index, call_count, call_var, arg_count, call_arg, same_function}
use Rattle.lowering.specs.Matching.{is_eq}

-- "The first target roots are the mapped source roots; a source root past the rows, or whose row is mapped to MAX, has no image"
unfoldable pub leads : List ℕ → List ℕ → List ℕ → ℕ → Bool
leads map eroots troots k =
    all (not (eqb (map_at map (get_or eroots k 0)) MAX) ∷ ltb k (length troots) ∷ eqb (get_or troots k 0) (map_at map (get_or eroots k 0)) ∷ [])

-- the first source root without its image in its place, or the number of source roots
abbrev pub bad_lead : List ℕ → List ℕ → List ℕ → ℕ
bad_lead map eroots troots = first (λ k. not (leads map eroots troots k)) (length eroots)

-- two entries of one table, by number
pub data Pair : Type 0 where
  pair : ℕ → ℕ → Pair

-- the pairs (k, l), (k, l + 1), .., n of them, that need a root
unfoldable pub pairs_with : (ℕ → ℕ → Bool) → ℕ → ℕ → ℕ → List Pair
pairs_with needs k l zero = []
pairs_with needs k l (suc n) = cond (needs k l) (pair k l ∷ pairs_with needs k (suc l) n) (pairs_with needs k (suc l) n)

-- "for each pair .., earlier before later": all pairs among the n entries from k on that need a root
unfoldable pub pairs : (ℕ → ℕ → Bool) → ℕ → ℕ → List Pair
pairs needs k zero = []
pairs needs k (suc n) = pairs_with needs k (suc k) n ++ pairs needs (suc k) n

-- "read entries of one array .. none for two unequal constant indices"
unfoldable pub reads_need : List ℕ → List ℕ → List ℕ → ℕ → ℕ → Bool
reads_need reads target tbits k l =
    all
    (eqb (read_array reads k) (read_array reads l)
    ∷ not (unequal_const tbits (row_at Target target (read_index reads k)) (row_at Target target (read_index reads l)))
    ∷ [])

abbrev pub read_pairs : List ℕ → List ℕ → List ℕ → List Pair
read_pairs reads target tbits = pairs (reads_need reads target tbits) 0 (read_count reads)

-- "each pair of calls" of one function (02, 2.7), ws being the target's widths; "here unequal constants don't excuse a pair"
abbrev pub call_pairs : List ℕ → List ℕ → List ℕ → List Pair
call_pairs calls cargs ws = pairs (same_function calls cargs ws) 0 (call_count calls)

-- "BoolAnd nested to the left over the argument equalities": target row r says that xs and ys agree at 0, .., n
unfoldable pub all_equal : List ℕ → (ℕ → ℕ) → (ℕ → ℕ) → ℕ → ℕ → Bool
all_equal target xs ys zero r = is_eq target (xs 0) (ys 0) r
all_equal target xs ys (suc n) r =
    all
    (ltb r (row_count Target target)
    ∷ eqb (tag_at target r) t_bool_and
    ∷ is_eq target (xs (suc n)) (ys (suc n)) (field_at target r 2)
    ∷ all_equal target xs ys n (field_at target r 1)
    ∷ [])

-- "BoolOr(Not(Eq(indices)), Eq(variables))": target row r says that u and v are equal where the k rows xs and ys are.
-- Two calls of one function without arguments have one key (6), so there is at least one
unfoldable pub congruent : List ℕ → (ℕ → ℕ) → (ℕ → ℕ) → ℕ → ℕ → ℕ → ℕ → Bool
congruent target xs ys k u v r =
    all
    (ltb 0 k
    ∷ ltb r (row_count Target target)
    ∷ eqb (tag_at target r) t_bool_or
    ∷ is_eq target u v (field_at target r 2)
    ∷ ltb (field_at target r 1) (row_count Target target)
    ∷ eqb (tag_at target (field_at target r 1)) t_not
    ∷ all_equal target xs ys (k - 1) (field_at target (field_at target r 1) 1)
    ∷ [])

-- the congruence root of two entries
abbrev pub read_root : List ℕ → List ℕ → ℕ → Pair → Bool
read_root reads target r (pair k l) =
    congruent target (λ _. read_index reads k) (λ _. read_index reads l) 1 (read_var reads k) (read_var reads l) r

abbrev pub call_root : List ℕ → List ℕ → List ℕ → ℕ → Pair → Bool
call_root calls cargs target r (pair k l) =
    congruent target (call_arg calls cargs k) (call_arg calls cargs l) (arg_count calls k) (call_var calls k) (call_var calls l) r

-- the root at a position is one that passes the test
unfoldable pub root_at : List ℕ → (ℕ → Pair → Bool) → ℕ → Pair → Bool
root_at troots test q p = all (ltb q (length troots) ∷ test (get_or troots q 0) p ∷ [])

-- the first of the pairs without its root, where the roots of the pairs stand from a position on, or the number of pairs
abbrev pub bad_cong : List ℕ → (ℕ → Pair → Bool) → ℕ → List Pair → ℕ
bad_cong troots test from ps = first (λ q. not (root_at troots test (from + q) (get_or ps q (pair 0 0)))) (length ps)
