-- Laws of a list built in order. Assumes nothing.
use Prim.Native.Nat.{ℕ, zero, suc, ◌+◌, ◌-◌, ◌<◌, ◌≤◌}
use mathlib.Core.Path.{◌≡◌, refl, sym, ap, ◌∙◌}
use mathlib.Core.List.{List, [], ◌++◌, append_assoc}
use native.Mathlib.Nat.{add-zero, add-suc}
use native.Mathlib.Numerals.{add-one}
use native.Mathlib.Omega.{arith}
use lib.ListN.{length, get_or, set, take, drop, length-append, get_or-append}
use lib.Seq.{get_or_at, take_at, set_at, drop-cons}
use Rattle.lists.specs.Build.{build}

module _ {A : Type 0} (f : ℕ → List A → A) where
  pub build-length : (n : ℕ) → length (build f n) ≡ n
  unfolding build
  build-length zero = refl
  build-length (suc n) = simp (length-append, build-length n) (omega arith)

  build-more : (d : A) (k n i : ℕ) → i < n → get_or (build f (n + k)) i d ≡ get_or (build f n) i d
  unfolding build
  build-more d zero n i h = rw add-zero
  build-more d (suc k) n i h =
      let b : i < length (build f (n + k)) = simp (build-length (n + k)) (omega arith) in
      rw (add-suc, get_or-append) (build-more d k n i h)

  -- an element stays as the list grows
  pub build-stay : (d : A) (m n i : ℕ) → i < n → n ≤ m → get_or (build f m) i d ≡ get_or (build f n) i d
  build-stay d m n i h l =
      let e : m ≡ n + (m - n) = omega arith in
      ap (λ (z : ℕ). get_or (build f z) i d) e ∙ build-more d (m - n) n i h

  -- the element at a place, by those before it
  pub build-at : (d : A) (n i : ℕ) → i < n → get_or (build f n) i d ≡ f i (build f i)
  unfolding build
  build-at d n i h =
      build-stay d n (suc i) i (omega arith) h ∙ get_or_at (build f i) (f i (build f i)) [] d i (build-length i)

  -- a list that is built in place: nothing is built yet, what stands before i, and the next store
  pub build-start : (l : List A) → l ≡ build f 0 ++ drop 0 l
  unfolding build
  build-start l = refl

  pub build-front : (i : ℕ) (rest : List A) → take i (build f i ++ rest) ≡ build f i
  build-front i rest = take_at (build f i) rest i (build-length i)

  pub build-store : (l : List A) (d : A) (i : ℕ) → i < length l
      → set (build f i ++ drop i l) i (f i (build f i)) ≡ build f (i + 1) ++ drop (i + 1) l
  unfolding build
  build-store l d i h =
      rw (add-one, drop-cons l i d) (set_at (build f i) _ _ _ i (build-length i) ∙ sym (append_assoc (build f i) _ _))
