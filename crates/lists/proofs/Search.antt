-- The searches of std through a list, by the place of its elements. Assumes nothing.
use Prim.Native.Nat.{ℕ, suc, ◌+◌, ◌<◌, ◌≤◌, zero-le, suc-le-suc}
use mathlib.Core.Path.{◌≡◌, refl, ap, ◌∙◌}
use mathlib.Core.Bool.{Bool, true, false, cond, not, ◌&&◌}
use mathlib.Core.List.{List, [], ◌∷◌}
use native.Mathlib.Omega.{arith}
use borrow.Author.Tests.{ltb-false}
use lib.Dec.{eqb, ltb}
use lib.ListN.{length, get_or, take, drop}
use Rattle.std.proofs.Math.Dec.{eqb-suc-suc, eqb-zero-suc}
use Rattle.std.proofs.lemmas.List.{get_or-drop, get_or-take, length-drop, length-take-le}
use Rattle.std.proofs.lemmas.List.FromFn.{get_or-range_with_len, length-range_with_len}
use Rattle.std.specs.List.{range_with_len, list_all, position_or_len}
use Rattle.std.specs.Option.{unwrap_or}
use Rattle.std.specs.declared.option.Option.{Option}
use Rattle.std.specs.declared.option.Option.TheVariants.{Some, None}
use Rattle.lists.specs.First.{first, none}
use Rattle.lists.proofs.First.{first-le}

module _ {X : Type 0} (test : X → Bool) (d : X) where
  -- `position`, where no element passes the length
  pub first-position : (p : ℕ → Bool) (xs : List X) → ((l : ℕ) → l < length xs → p l ≡ test (get_or xs l d))
      → position_or_len test xs ≡ first p (length xs)
  unfolding first
  first-position p [] h = refl
  first-position p (x ∷ xs) h =
      rw (h 0 (suc-le-suc zero-le)) (go (test x) (first-position (λ i. p (suc i)) xs (λ l k. h (suc l) (suc-le-suc k))))
    where
      go : (b : Bool) → position_or_len test xs ≡ first (λ i. p (suc i)) (length xs)
          → cond (not b) (1 + position_or_len test xs) 0 ≡ cond b 0 (suc (first (λ i. p (suc i)) (length xs)))
      go true e = refl
      go false e = omega arith

  -- what `position` answers, with the length in place of `None`
  pub first-or-length : (p : ℕ → Bool) (xs : List X) (r : Option ℕ)
      → r ≡ cond (ltb (position_or_len test xs) (length xs)) (Some (position_or_len test xs)) None
      → ((l : ℕ) → l < length xs → p l ≡ test (get_or xs l d)) → unwrap_or r (length xs) ≡ first p (length xs)
  first-or-length p xs r e h =
      let place = first-position p xs h in
      let low : first p (length xs) ≤ length xs = first-le p (length xs) in
      rw e (go (ltb (position_or_len test xs) (length xs)) refl place low)
    where
      go : (b : Bool) → ltb (position_or_len test xs) (length xs) ≡ b → position_or_len test xs ≡ first p (length xs)
          → first p (length xs) ≤ length xs
          → unwrap_or (cond b (Some (position_or_len test xs)) None) (length xs) ≡ first p (length xs)
      go true e place low = place
      go false e place low = let past = ltb-false _ _ e in omega arith

  -- `all`, by the test that an element fails
  pub none-all : (bad : ℕ → Bool) (xs : List X) → ((l : ℕ) → l < length xs → test (get_or xs l d) ≡ not (bad l))
      → list_all test xs ≡ none bad (length xs)
  unfolding first
  none-all bad [] h = refl
  none-all bad (x ∷ xs) h =
      rw (h 0 (suc-le-suc zero-le)) (go (bad 0) (none-all (λ i. bad (suc i)) xs (λ l k. h (suc l) (suc-le-suc k))))
    where
      go : (b : Bool) → list_all test xs ≡ none (λ i. bad (suc i)) (length xs)
          → (not b && list_all test xs) ≡ eqb (cond b 0 (suc (first (λ i. bad (suc i)) (length xs)))) (suc (length xs))
      go true e = rw eqb-zero-suc
      go false e = rw eqb-suc-suc e

  -- the same of k elements from s on
  pub part-all : (bad : ℕ → Bool) (s k : ℕ) (xs : List X) → s + k ≤ length xs
      → ((l : ℕ) → l < k → test (get_or xs (s + l) d) ≡ not (bad l)) → list_all test (take k (drop s xs)) ≡ none bad k
  part-all bad s k xs room h =
      let within : k ≤ length (drop s xs) = rw (length-drop s xs) (omega arith) in
      let long : length (take k (drop s xs)) ≡ k = length-take-le k (drop s xs) within in
      none-all bad (take k (drop s xs))
      (λ l low. let here : l < k = omega arith in rw (get_or-take k (drop s xs) l d here, get_or-drop s xs l d) (h l here))
      ∙ ap (none bad) long

-- `all` over the numbers below k
pub range-all : (test bad : ℕ → Bool) (k : ℕ) → ((l : ℕ) → l < k → test l ≡ not (bad l)) → list_all test (range_with_len 0 k) ≡ none bad k
range-all test bad k h =
    none-all test 0 bad (range_with_len 0 k)
    (λ l low.
    let here : l < k = omega (arith, length-range_with_len 0 k) in
    let at : get_or (range_with_len 0 k) l 0 ≡ l = get_or-range_with_len 0 k l 0 here ∙ omega arith in
    rw at (h l here))
    ∙ ap (none bad) (length-range_with_len 0 k)
