-- Two sequences compared place by place: by a loop, as slices, pair by pair. Assumes nothing.
use Prim.Native.Nat.{ℕ, suc, ◌+◌, ◌-◌, ◌<◌, ◌≤◌, zero-le}
use mathlib.Core.Path.{◌≡◌, sym, ap, ◌∙◌}
use mathlib.Core.Bool.{Bool, true, false, not, cond, ◌&&◌}
use mathlib.Core.List.{List, [], ◌∷◌}
use native.Mathlib.Nat.{not-suc-le-zero}
use native.Mathlib.Omega.{arith}
use borrow.Author.Count.{below_more}
use borrow.Author.Tests.{ne_eqb}
use lib.Dec.{eqb}
use lib.ListN.{length, get_or, take, drop}
use lib.Pointwise.{pointwise}
use Rattle.std.proofs.lemmas.Bool.Decides.{Decides-eqb, same_from_decides}
use Rattle.std.proofs.lemmas.Bool.Decides.{nat_tests}
use Rattle.std.proofs.lemmas.List.{ext_get_or, get_or-take, get_or-drop, length-take, length-drop}
use Rattle.std.specs.List.{list_all, zip}
use Rattle.std.proofs.lemmas.Slice.Eq.{slice_eq-Decides}
use Rattle.lists.specs.First.{first}
use Rattle.lists.specs.Tests.{agree}
use Rattle.lists.proofs.First.{first-same}
use Rattle.lists.proofs.Tests.{agree_at, agree-yes, agree-no}

-- what a loop keeps: the places before j agree
module _ (f g : ℕ → ℕ) (n : ℕ) where
  abbrev pub Agreed : ℕ → Type 0
  Agreed j = (j ≤ n) × ((k : ℕ) → k < j → f k ≡ g k)

  pub agreed-none : Agreed 0
  agreed-none = (zero-le, λ k h. absurd (not-suc-le-zero h))

  module _ (j : ℕ) (a : Agreed j) where
    pub agreed-more : j < n → f j ≡ g j → Agreed (j + 1)
    agreed-more h e = (omega arith, below_more _ _ a.1 e)

    pub agreed-no : j < n → (f j ≡ g j → ⊥) → false ≡ agree f g n
    agreed-no h d = sym (agree-no f g n j h d a.1)

    pub agreed-all : n ≤ j → true ≡ agree f g n
    agreed-all h = sym (agree-yes f g n (λ k l. a.1 k (omega arith)))

-- the first place, then the others; each sequence in other words
agree-first : (f g : ℕ → ℕ) (n : ℕ) → agree f g (suc n) ≡ (eqb (f 0) (g 0) && agree (λ i. f (suc i)) (λ i. g (suc i)) n)
unfolding agree first
agree-first f g n = go (eqb (f 0) (g 0))
  where
    rest : ℕ
    rest = first (λ i. not (eqb (f (suc i)) (g (suc i)))) n

    go : (b : Bool) → eqb (cond (not b) 0 (suc rest)) (suc n) ≡ (b && eqb rest n)
    go true = grind (arith, nat_tests)
    go false = ne_eqb 0 (suc n) (λ z. absurd (omega arith))

agree-same : (f f' g g' : ℕ → ℕ) (n : ℕ) → ((i : ℕ) → i < n → f i ≡ f' i) → ((i : ℕ) → i < n → g i ≡ g' i)
    → agree f g n ≡ agree f' g' n
unfolding agree
agree-same f f' g g' n d e =
    ap (λ (k : ℕ). eqb k n) (first-same _ _ n (λ i h. rw (d i h, e i h)))

-- two lists of one length, pair by pair
zip-agree : (f g : ℕ → ℕ) (xs ys : List ℕ) → length xs ≡ length ys
    → list_all (λ p. eqb (f p.0) (g p.1)) (zip xs ys) ≡ agree (λ i. f (get_or xs i 0)) (λ i. g (get_or ys i 0)) (length xs)
zip-agree f g [] ys e = sym (agree-yes (λ i. f (get_or {A = ℕ} [] i 0)) (λ i. g (get_or ys i 0)) 0 (λ k h. absurd (not-suc-le-zero h)))
zip-agree f g (x ∷ xs) (y ∷ ys) e =
    ap (λ (b : Bool). eqb (f x) (g y) && b) (zip-agree f g xs ys (omega arith))
    ∙ sym (agree-first (λ i. f (get_or (x ∷ xs) i 0)) (λ i. g (get_or (y ∷ ys) i 0)) (length xs))
zip-agree f g (x ∷ xs) [] e = absurd (omega arith)

-- two stretches of w numbers are one list where they agree place by place
module _ (xs ys : List ℕ) (s t w : ℕ) (h : s + w ≤ length xs) (k : t + w ≤ length ys) where
  cut : List ℕ → ℕ → List ℕ
  cut zs o = take (o + w - o) (drop o zs)

  cut-at : (zs : List ℕ) (o i : ℕ) → i < w → get_or (cut zs o) i 0 ≡ get_or zs (o + i) 0
  unfolding cut
  cut-at zs o i l = let b : i < o + w - o = omega arith in rw (get_or-take, get_or-drop)

  cut-length : (zs : List ℕ) (o : ℕ) → o + w ≤ length zs → length (cut zs o) ≡ w
  unfolding cut
  cut-length zs o b = simp (length-take, length-drop) (omega arith)

  agreed-cuts : agree (λ i. get_or xs (s + i) 0) (λ i. get_or ys (t + i) 0) w ≡ true → cut xs s ≡ cut ys t
  agreed-cuts e =
      ext_get_or 0 _ _ (cut-length xs s h ∙ sym (cut-length ys t k))
      (λ i l. let b : i < w = omega (arith, cut-length xs s h) in cut-at xs s i b ∙ agree_at _ _ _ e i b ∙ sym (cut-at ys t i b))

  cuts-agree : cut xs s ≡ cut ys t → agree (λ i. get_or xs (s + i) 0) (λ i. get_or ys (t + i) 0) w ≡ true
  cuts-agree e = agree-yes _ _ _ (λ i b. sym (cut-at xs s i b) ∙ ap (λ (zs : List ℕ). get_or zs i 0) e ∙ cut-at ys t i b)

  pub stretches-agree : (r : Bool) → r ≡ pointwise eqb (take (s + w - s) (drop s xs)) (take (t + w - t) (drop t ys))
      → r ≡ agree (λ i. get_or xs (s + i) 0) (λ i. get_or ys (t + i) 0) w
  unfolding cut
  stretches-agree r e = same_from_decides _ _ (slice_eq-Decides Decides-eqb _ _ r e) (agreed-cuts, cuts-agree)

  pub pairs-agree : (f g : ℕ → ℕ) → list_all (λ p. eqb (f p.0) (g p.1)) (zip (take (s + w - s) (drop s xs)) (take (t + w - t) (drop t ys)))
      ≡ agree (λ i. f (get_or xs (s + i) 0)) (λ i. g (get_or ys (t + i) 0)) w
  unfolding cut
  pairs-agree f g =
      zip-agree f g (cut xs s) (cut ys t) (cut-length xs s h ∙ sym (cut-length ys t k))
      ∙ ap (agree (λ i. f (get_or (cut xs s) i 0)) (λ i. g (get_or (cut ys t) i 0))) (cut-length xs s h)
      ∙ agree-same _ _ _ _ w (λ i l. ap f (cut-at xs s i l)) (λ i l. ap g (cut-at ys t i l))
