-- Laws of the search for the first number that passes a test. Assumes nothing.
use Prim.Native.Nat.{ℕ, zero, suc, ◌<◌, ◌≤◌, zero-le, suc-le-suc}
use mathlib.Core.Path.{◌≡◌, refl, sym, ap, ◌∙◌}
use mathlib.Core.Bool.{Bool, true, false, cond}
use mathlib.Core.Logic.{⊎_elim}
use native.Mathlib.Nat.{not-suc-le-zero, le_of_suc-le-suc, le_antisymm}
use native.Mathlib.Omega.{arith}
use borrow.Author.Tests.{eq-eqb, ne_eqb, eqb-true, le-ltb}
use lib.Dec.{ltb}
use Rattle.lists.specs.First.{first, none}
use Rattle.lists.proofs.Choice.{no_way, lt-or-ge}

-- it is at most n
pub first-le : (p : ℕ → Bool) (n : ℕ) → first p n ≤ n
unfolding first
first-le p zero = zero-le
first-le p (suc n) = go (p 0) (first-le (λ i. p (suc i)) n)
  where
    go : (b : Bool) → first (λ i. p (suc i)) n ≤ n → cond b 0 (suc (first (λ i. p (suc i)) n)) ≤ suc n
    go true h = zero-le
    go false h = suc-le-suc h

-- below n it passes
pub first-hit : (p : ℕ → Bool) (n : ℕ) → first p n < n → p (first p n) ≡ true
unfolding first
first-hit p zero h = absurd (not-suc-le-zero h)
first-hit p (suc n) h = go (p 0) refl (first-hit (λ i. p (suc i)) n) h
  where
    go : (b : Bool) → p 0 ≡ b → (first (λ i. p (suc i)) n < n → p (suc (first (λ i. p (suc i)) n)) ≡ true)
        → cond b 0 (suc (first (λ i. p (suc i)) n)) < suc n → p (cond b 0 (suc (first (λ i. p (suc i)) n))) ≡ true
    go true e r l = e
    go false e r l = r (le_of_suc-le-suc l)

-- those before it fail
pub first-before : (p : ℕ → Bool) (n i : ℕ) → i < first p n → p i ≡ false
unfolding first
first-before p zero i h = absurd (not-suc-le-zero h)
first-before p (suc n) i h = go (p 0) refl i h (first-before (λ j. p (suc j)) n)
  where
    go : (b : Bool) → p 0 ≡ b → (k : ℕ) → k < cond b 0 (suc (first (λ j. p (suc j)) n))
        → ((j : ℕ) → j < first (λ j. p (suc j)) n → p (suc j) ≡ false) → p k ≡ false
    go true e k l r = absurd (not-suc-le-zero l)
    go false e zero l r = e
    go false e (suc k) l r = r k (le_of_suc-le-suc l)

-- the first number is known by a pass with failures before it
pub first-at : (p : ℕ → Bool) (n i : ℕ) → i < n → p i ≡ true → ((j : ℕ) → j < i → p j ≡ false) → first p n ≡ i
unfolding first
first-at p zero i h e b = absurd (not-suc-le-zero h)
first-at p (suc n) zero h e b = rw e
first-at p (suc n) (suc i) h e b =
    rw (b 0 (suc-le-suc zero-le)) (ap suc (first-at (λ j. p (suc j)) n i (le_of_suc-le-suc h) e (λ j l. b (suc j) (suc-le-suc l))))

-- where all fail it is n
pub first-none : (p : ℕ → Bool) (n : ℕ) → ((j : ℕ) → j < n → p j ≡ false) → first p n ≡ n
unfolding first
first-none p zero b = refl
first-none p (suc n) b = rw (b 0 (suc-le-suc zero-le)) (ap suc (first-none (λ j. p (suc j)) n (λ j l. b (suc j) (suc-le-suc l))))

-- the same for the test that none passes
pub none-yes : (p : ℕ → Bool) (n : ℕ) → ((j : ℕ) → j < n → p j ≡ false) → none p n ≡ true
none-yes p n b = eq-eqb (first p n) n (first-none p n b)

pub none-no : (p : ℕ → Bool) (n i : ℕ) → i < n → p i ≡ true → ((j : ℕ) → j < i → p j ≡ false) → none p n ≡ false
none-no p n i h e b = ne_eqb (first p n) n (λ z. let q : first p n ≡ i = first-at p n i h e b in omega arith)

pub none-at : (p : ℕ → Bool) (n : ℕ) → none p n ≡ true → (j : ℕ) → j < n → p j ≡ false
none-at p n t j h = let e : first p n ≡ n = eqb-true (first p n) n t in first-before p n j (omega arith)

-- a search that has come to n without a pass
pub first_past : (p : ℕ → Bool) (n i : ℕ) → i ≤ n → n ≤ i → ((j : ℕ) → j < i → p j ≡ false) → first p n ≡ i
first_past p n i h l b = let e : n ≡ i = omega arith in rw e (first-none p i b)

-- a search by two tests that agree
pub first-same : (p q : ℕ → Bool) (n : ℕ) → ((i : ℕ) → i < n → p i ≡ q i) → first p n ≡ first q n
unfolding first
first-same p q zero e = refl
first-same p q (suc n) e = rw (e 0 (omega arith), first-same (λ i. p (suc i)) (λ i. q (suc i)) n (λ i h. e (suc i) (omega arith)))

-- a search that came to its end found nothing
pub first-all : (p : ℕ → Bool) (n : ℕ) → n ≤ first p n → first p n ≡ n
first-all p n h = le_antisymm (first-le p n) h

-- a hit is not before the first
pub first-upto : (p : ℕ → Bool) (n k : ℕ) → p k ≡ true → first p n ≤ k
first-upto p n k e = ⊎_elim (λ l. no_way (sym e ∙ first-before p n k l)) (λ l. l) (lt-or-ge k (first p n))

-- the only hit is the first
pub first-only : (p : ℕ → Bool) (n k : ℕ) → k < n → p k ≡ true → ((l : ℕ) → l < n → p l ≡ true → l ≡ k) → first p n ≡ k
first-only p n k h e u =
    let f : first p n ≤ k = first-upto p n k e in
    u (first p n) (omega arith) (first-hit p n (omega arith))

-- a search without a hit
pub first-nowhere : (p : ℕ → Bool) (n : ℕ) → ((l : ℕ) → l < n → p l ≡ true → ⊥) → ltb (first p n) n ≡ false
first-nowhere p n u = rw (first-none p n (λ j h. go (p j) (u j h))) (le-ltb n n (omega arith))
  where
    go : (b : Bool) → (b ≡ true → ⊥) → b ≡ false
    go true f = absurd (f refl)
    go false f = refl
