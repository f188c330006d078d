-- Laws of keys: the key at an entry's offset is the entry's, each entry has its own, functions are told apart either way round. Assumes nothing.
use Prim.Native.Nat.{ℕ, ◌+◌, ◌*◌}
use mathlib.Core.Path.{◌≡◌, refl, sym, ◌∙◌}
use mathlib.Core.Bool.{Bool, true, false}
use mathlib.Core.List.{List, [], ◌∷◌}
use borrow.Author.Tests.{eq-eqb, eqb-true, eqb-false, ne_eqb}
use lib.Dec.{eqb}
use lib.ListN.{get_or}
use Rattle.lists.specs.Tests.{all}
use Rattle.lists.proofs.Tests.{all_true, agree-yes}
use Rattle.lowering.specs.Tables.{read_array, read_index, call_function, call_start, arg_count, call_arg, result_width, arg_width}
use Rattle.lowering.specs.Tables.{same_read, same_function, same_call}
use Rattle.keys.specs.Keys.{read_is, function_is, call_is, functions_agree}
use Rattle.keys.proofs.Order.{fails, three}

eqb-sym : (a b : ℕ) → eqb a b ≡ eqb b a
eqb-sym a b = go (eqb a b) refl
  where
    go : (t : Bool) → eqb a b ≡ t → t ≡ eqb b a
    go true e = sym (eq-eqb b a (sym (eqb-true a b e)))
    go false e = sym (ne_eqb b a (λ z. eqb-false a b e (sym z)))

-- number, count and result with the rows, then the function: the function, then the rows
regroup : (a b c d e : Bool)
    → all (all (all (a ∷ b ∷ c ∷ []) ∷ e ∷ []) ∷ all (all (a ∷ b ∷ c ∷ []) ∷ d ∷ []) ∷ []) ≡ all (all (a ∷ b ∷ c ∷ d ∷ []) ∷ e ∷ [])
unfolding all
regroup false b c d e = refl
regroup true false c d e = refl
regroup true true false d e = refl
regroup true true true d true = refl
regroup true true true true false = refl
regroup true true true false false = refl

-- reads
module _ (reads : List ℕ) where
  pub same-read-at : (off i k : ℕ) → off ≡ i * 3 → read_is reads off (read_array reads k) (read_index reads k) ≡ same_read reads i k
  unfolding same_read
  same-read-at off i k e = rw e

  pub read-self : (k : ℕ) → same_read reads k k ≡ true
  unfolding same_read all
  read-self k = rw (eq-eqb (read_array reads k) (read_array reads k) refl, eq-eqb (read_index reads k) (read_index reads k) refl)

-- calls
module _ (calls cargs ws : List ℕ) where
  pub same-function-at : (p q k l : ℕ) → p ≡ k * 4 → q ≡ l * 4 → functions_agree calls cargs ws p q ≡ same_function calls cargs ws k l
  unfolding same_function
  same-function-at p q k l e f = rw (e, f) (three _ _ _ _)

  -- entry l has entry k's number, count and result width, or is of another function
  abbrev pub alike : ℕ → ℕ → Bool
  alike k l = function_is calls ws (l * 4) (call_function calls k) (arg_count calls k) (result_width calls ws k)

  pub other-function : (k l : ℕ) → alike k l ≡ false → same_function calls cargs ws k l ≡ false
  unfolding same_function
  other-function k l e =
      sym (three _ _ _ _)
      ∙ sym (fails _ (rw (
        eqb-sym (call_function calls l) (call_function calls k),
        eqb-sym (arg_count calls l) (arg_count calls k),
        eqb-sym (result_width calls ws l) (result_width calls ws k),
      ) at e))

  pub alike-fields : (k l : ℕ) → alike k l ≡ true
      → (call_function calls k ≡ call_function calls l) × (arg_count calls k ≡ arg_count calls l)
      × (result_width calls ws k ≡ result_width calls ws l)
  alike-fields k l e =
      let (f, (n, (w, _))) = all_true _ e in (
        sym (eqb-true (call_function calls l) (call_function calls k) f),
        sym (eqb-true (arg_count calls l) (arg_count calls k) n),
        sym (eqb-true (result_width calls ws l) (result_width calls ws k) w),
      )

  -- the key: function and arguments, in whichever order they are asked for
  pub same-call-at : (off i k : ℕ) → off ≡ i * 4
      → all
      (call_is calls cargs ws off (call_function calls k) (call_start calls k) (arg_count calls k) (result_width calls ws k)
      ∷ functions_agree calls cargs ws off (k * 4)
      ∷ [])
      ≡ same_call calls cargs ws i k
  unfolding same_call same_function
  same-call-at off i k e = rw e (regroup _ _ _ _ _)

  -- an entry is of its own function, and has its own key
  pub function-self : (p : ℕ) → functions_agree calls cargs ws p p ≡ true
  unfolding all
  function-self p =
      let rows : ℕ → ℕ = λ l. get_or ws (get_or cargs (get_or calls (p + 2) 0 + l) 0) 0 in
      rw (
        eq-eqb (get_or calls (p + 1) 0) (get_or calls (p + 1) 0) refl,
        eq-eqb (get_or calls (p + 3) 0) (get_or calls (p + 3) 0) refl,
        eq-eqb (get_or ws (get_or calls p 0) 0) (get_or ws (get_or calls p 0) 0) refl,
        agree-yes rows rows (get_or calls (p + 3) 0) (λ _ _. refl),
      )

  pub call-self : (k : ℕ) → same_call calls cargs ws k k ≡ true
  unfolding same_call same_function all
  call-self k =
      rw (
        eq-eqb (call_function calls k) (call_function calls k) refl,
        eq-eqb (arg_count calls k) (arg_count calls k) refl,
        eq-eqb (result_width calls ws k) (result_width calls ws k) refl,
        agree-yes (arg_width calls cargs ws k) (arg_width calls cargs ws k) (arg_count calls k) (λ _ _. refl),
        agree-yes (call_arg calls cargs k) (call_arg calls cargs k) (arg_count calls k) (λ _ _. refl),
      )
