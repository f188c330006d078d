-- Every operator's number lies below 2 ^ width: one proof a line of the table, by few shapes. Assumes nothing.
use Prim.Native.Nat.{ℕ, zero, suc, ◌+◌, ◌-◌, ◌<◌, ◌^◌}
use mathlib.Core.Path.{◌≡◌, refl, sym, subst}
use mathlib.Core.Bool.{cond}
use mathlib.Core.List.{List, [], ◌∷◌}
use native.Mathlib.Nat.{not-suc-le-zero, le_of_suc-le-suc, add-zero, add-suc, suc-add, zero-add}
use native.Mathlib.Omega.{arith}
use borrow.Author.Tests.{eqb-true}
use lib.Dec.{eqb, ltb, leb}
use lib.ListN.{length, get_or}
use Rattle.arith.proofs.Fits.{add-fits, sub-fits, mul-fits, extract-fits, concat-fits, zero-extend-fits, sign-extend-fits}
use Rattle.comparisons.proofs.Fits.{ite-fits, equal-fits, distinct-fits, ult-fits, ule-fits, ugt-fits, uge-fits, slt-fits, sle-fits, sgt-fits}
use Rattle.comparisons.proofs.Fits.{sge-fits}
use Rattle.bv.proofs.Fits.{neg-fits}
use Rattle.bitwise.proofs.Fits.{not-fits, and-fits, or-fits, xor-fits, shl-fits, lshr-fits, ashr-fits, rotr-fits, rotl-fits}
use Rattle.divide.proofs.Fits.{udiv-fits, urem-fits, sdiv-fits, srem-fits}
use Rattle.lists.proofs.Choice.{taken}
use Rattle.rules.specs.Rule.{same}
use Rattle.value.specs.Val.{Val, wid, nat, arg, Fit}
use Rattle.value.specs.Operate.{numbers, op_width, operate}

-- something of each entry of a list and its place, counted from i
data Every {A : Type 0} (P : ℕ → A → Type 0) : ℕ → List A → Type 0 where
  end : {i : ℕ} → Every P i []
  ◌⨾◌ : {i : ℕ} {x : A} {xs : List A} → P i x → Every P (suc i) xs → Every P i (x ∷ xs)

infixr 3 ◌⨾◌
module _ {A : Type 0} (P : ℕ → A → Type 0) where
  every-from : (d : A) (xs : List A) (i : ℕ) → Every P i xs → (k : ℕ) → k < length xs → P (i + k) (get_or xs k d)
  every-from d [] i end k h = absurd (not-suc-le-zero h)
  every-from d (x ∷ xs) i (e ⨾ es) zero h = rw add-zero e
  every-from d (x ∷ xs) i (e ⨾ es) (suc k) h = rw (add-suc, ← suc-add) (every-from d xs (suc i) es k (le_of_suc-le-suc h))

  every-at : (d : A) (xs : List A) → Every P 0 xs → (k : ℕ) → k < length xs → P k (get_or xs k d)
  every-at d xs e k h = rw zero-add at (every-from d xs 0 e k h)

-- operands of one width: the rule's width is the one that it names
even : (a b v : ℕ) → 0 < same a b v → (a ≡ b) × (same a b v ≡ v)
even a b v h = let (t, e) = taken (eqb a b) v (same a b v) refl h in (eqb-true a b t, sym e)

module _ (vs : List Val) (fit : (j : ℕ) → Fit (arg vs j)) where
  -- two operands of one width w, and a number of that width
  word : (f : ℕ → ℕ → ℕ → ℕ) → ((w a b : ℕ) → 0 < w → a < 2 ^ w → b < 2 ^ w → f w a b < 2 ^ w)
      → 0 < same (wid (arg vs 0)) (wid (arg vs 1)) (wid (arg vs 0))
      → f (wid (arg vs 0)) (nat (arg vs 0)) (nat (arg vs 1)) < 2 ^ same (wid (arg vs 0)) (wid (arg vs 1)) (wid (arg vs 0))
  word f law h =
      let (e, s) = even (wid (arg vs 0)) (wid (arg vs 1)) (wid (arg vs 0)) h in
      rw s (law (wid (arg vs 0)) (nat (arg vs 0)) (nat (arg vs 1)) (rw s at h) (fit 0) (rw (sym e) at (fit 1)))

  -- two operands of one width, and a bit
  compare : (n : ℕ) → n < 2 ^ 1 → 0 < same (wid (arg vs 0)) (wid (arg vs 1)) 1 → n < 2 ^ same (wid (arg vs 0)) (wid (arg vs 1)) 1
  compare n l h = rw (even (wid (arg vs 0)) (wid (arg vs 1)) 1 h).1 l

  -- two bits, and a bit
  bool : (f : ℕ → ℕ → ℕ → ℕ) → ((w a b : ℕ) → f w a b < 2 ^ w)
      → 0 < same (wid (arg vs 0)) 1 (same (wid (arg vs 1)) 1 1)
      → f (wid (arg vs 0)) (nat (arg vs 0)) (nat (arg vs 1)) < 2 ^ same (wid (arg vs 0)) 1 (same (wid (arg vs 1)) 1 1)
  bool f law h =
      let (e, s) = even (wid (arg vs 0)) 1 (same (wid (arg vs 1)) 1 1) h in
      let (_, t) = even (wid (arg vs 1)) 1 1 (rw s at h) in
      let l : wid (arg vs 0) ≡ 1 = e in
      rw (s, t) (subst (λ (w : ℕ). f (wid (arg vs 0)) (nat (arg vs 0)) (nat (arg vs 1)) < 2 ^ w) l
      (law (wid (arg vs 0)) (nat (arg vs 0)) (nat (arg vs 1))))

  -- Extract, Ite and Not by their rules
  part : (i j : ℕ) → 0 < cond (leb j i) (cond (ltb i (wid (arg vs 0))) (i - j + 1) 0) 0 → (n : ℕ) → n < 2 ^ (i - j + 1)
      → n < 2 ^ cond (leb j i) (cond (ltb i (wid (arg vs 0))) (i - j + 1) 0) 0
  part i j h n l =
      let (_, s) = taken (leb j i) _ _ refl h in
      let (_, t) = taken (ltb i (wid (arg vs 0))) (i - j + 1) _ refl (rw (← s) at h) in
      rw (← s, ← t) l

  choice : (c : ℕ) → 0 < same (wid (arg vs 0)) 1 (same (wid (arg vs 1)) (wid (arg vs 2)) (wid (arg vs 1)))
      → cond (eqb c 1) (nat (arg vs 1)) (nat (arg vs 2)) < 2 ^ same (wid (arg vs 0)) 1 (same (wid (arg vs 1)) (wid (arg vs 2)) (wid (arg vs 1)))
  choice c h =
      let (_, s) = even (wid (arg vs 0)) 1 _ h in
      let (e, t) = even (wid (arg vs 1)) (wid (arg vs 2)) (wid (arg vs 1)) (rw s at h) in
      rw (s, t) (ite-fits (wid (arg vs 1)) c (nat (arg vs 1)) (nat (arg vs 2)) (fit 1) (rw (sym e) at (fit 2)))

  one : (f : ℕ → ℕ → ℕ) → ((w a : ℕ) → f w a < 2 ^ w) → 0 < same (wid (arg vs 0)) 1 1
      → f (wid (arg vs 0)) (nat (arg vs 0)) < 2 ^ same (wid (arg vs 0)) 1 1
  one f law h =
      let (e, s) = even (wid (arg vs 0)) 1 1 h in
      rw s (subst (λ (w : ℕ). f (wid (arg vs 0)) (nat (arg vs 0)) < 2 ^ w) e (law (wid (arg vs 0)) (nat (arg vs 0))))

-- what a line of the table promises
OpFits : ℕ → (List ℕ → List Val → ℕ) → Type 0
OpFits t f =
    (ps : List ℕ) (vs : List Val) → ((j : ℕ) → Fit (arg vs j)) → (t ≡ 1 → get_or ps 1 0 < 2 ^ get_or ps 0 0) → (t ≡ 0 → ⊥)
    → 0 < op_width t ps (λ j. wid (arg vs j)) → f ps vs < 2 ^ op_width t ps (λ j. wid (arg vs j))

lines : Every OpFits 0 numbers
unfolding OpFits
lines =
    (λ ps vs fit c z h. absurd (z refl))
    ⨾ (λ ps vs fit c z h. c refl)
    ⨾ (λ ps vs fit c z h. word vs fit _ (λ w a b p x y. add-fits w a b) h)
    ⨾ (λ ps vs fit c z h. word vs fit _ (λ w a b p x y. sub-fits w a b) h)
    ⨾ (λ ps vs fit c z h. word vs fit _ (λ w a b p x y. mul-fits w a b) h)
    ⨾ (λ ps vs fit c z h. word vs fit _ (λ w a b p x y. udiv-fits w a b x) h)
    ⨾ (λ ps vs fit c z h. word vs fit _ (λ w a b p x y. urem-fits w a b x) h)
    ⨾ (λ ps vs fit c z h. word vs fit _ (λ w a b p x y. and-fits w a b) h)
    ⨾ (λ ps vs fit c z h. word vs fit _ (λ w a b p x y. or-fits w a b) h)
    ⨾ (λ ps vs fit c z h. word vs fit _ (λ w a b p x y. xor-fits w a b) h)
    ⨾ (λ ps vs fit c z h. word vs fit _ (λ w a b p x y. shl-fits w a b) h)
    ⨾ (λ ps vs fit c z h. word vs fit _ (λ w a b p x y. lshr-fits w a b x) h)
    ⨾ (λ ps vs fit c z h. word vs fit _ (λ w a b p x y. ashr-fits w a b x) h)
    ⨾ (λ ps vs fit c z h. word vs fit _ (λ w a b p x y. rotr-fits w a b p x) h)
    ⨾ (λ ps vs fit c z h. part vs fit (get_or ps 0 0) (get_or ps 1 0) h _ (extract-fits (get_or ps 0 0) (get_or ps 1 0) (nat (arg vs 0))))
    ⨾ (λ ps vs fit c z h. concat-fits (wid (arg vs 0)) (wid (arg vs 1)) (nat (arg vs 0)) (nat (arg vs 1)) (fit 0) (fit 1))
    ⨾ (λ ps vs fit c z h. zero-extend-fits (wid (arg vs 0)) (get_or ps 0 0) (nat (arg vs 0)) (fit 0))
    ⨾ (λ ps vs fit c z h. sign-extend-fits (wid (arg vs 0)) (get_or ps 0 0) (nat (arg vs 0)) (fit 0))
    ⨾ (λ ps vs fit c z h. choice vs fit (nat (arg vs 0)) h)
    ⨾ (λ ps vs fit c z h. compare vs fit _ (equal-fits (nat (arg vs 0)) (nat (arg vs 1))) h)
    ⨾ (λ ps vs fit c z h. compare vs fit _ (distinct-fits (nat (arg vs 0)) (nat (arg vs 1))) h)
    ⨾ (λ ps vs fit c z h. compare vs fit _ (ult-fits (nat (arg vs 0)) (nat (arg vs 1))) h)
    ⨾ (λ ps vs fit c z h. compare vs fit _ (ule-fits (nat (arg vs 0)) (nat (arg vs 1))) h)
    ⨾ (λ ps vs fit c z h. compare vs fit _ (ugt-fits (nat (arg vs 0)) (nat (arg vs 1))) h)
    ⨾ (λ ps vs fit c z h. compare vs fit _ (uge-fits (nat (arg vs 0)) (nat (arg vs 1))) h)
    ⨾ (λ ps vs fit c z h. compare vs fit _ (slt-fits (wid (arg vs 0)) (nat (arg vs 0)) (nat (arg vs 1))) h)
    ⨾ (λ ps vs fit c z h. compare vs fit _ (sle-fits (wid (arg vs 0)) (nat (arg vs 0)) (nat (arg vs 1))) h)
    ⨾ (λ ps vs fit c z h. compare vs fit _ (sgt-fits (wid (arg vs 0)) (nat (arg vs 0)) (nat (arg vs 1))) h)
    ⨾ (λ ps vs fit c z h. compare vs fit _ (sge-fits (wid (arg vs 0)) (nat (arg vs 0)) (nat (arg vs 1))) h)
    ⨾ (λ ps vs fit c z h. one vs fit _ not-fits h)
    ⨾ (λ ps vs fit c z h. bool vs fit _ and-fits h)
    ⨾ (λ ps vs fit c z h. bool vs fit _ or-fits h)
    ⨾ (λ ps vs fit c z h. not-fits (wid (arg vs 0)) (nat (arg vs 0)))
    ⨾ (λ ps vs fit c z h. neg-fits (wid (arg vs 0)) (nat (arg vs 0)))
    ⨾ (λ ps vs fit c z h. word vs fit _ (λ w a b p x y. rotl-fits w a b p x) h)
    ⨾ (λ ps vs fit c z h. word vs fit _ (λ w a b p x y. sdiv-fits w a b x) h)
    ⨾ (λ ps vs fit c z h. word vs fit _ (λ w a b p x y. srem-fits w a b x) h)
    ⨾ end

-- a core operator on fitting operands, where the rules give a width, gives a fitting value
pub operate-fits : (t : ℕ) → 0 < t → t < 37 → (ps : List ℕ) (vs : List Val) → ((j : ℕ) → Fit (arg vs j))
    → (t ≡ 1 → get_or ps 1 0 < 2 ^ get_or ps 0 0) → 0 < wid (operate t ps vs) → Fit (operate t ps vs)
unfolding operate OpFits
operate-fits t p l ps vs fit c h = every-at OpFits (λ qs us. 0) numbers lines t l ps vs fit c (λ z. absurd (omega arith)) h
