-- Laws of several tests at once, of sequences, of a list's elements and of a stretch that lies in a list. Assumes nothing.
use Prim.Native.Nat.{ℕ, zero, suc, ◌+◌, ◌-◌, ◌<◌, ◌≤◌}
use mathlib.Core.Path.{◌≡◌, refl, sym, ap}
use mathlib.Core.Bool.{Bool, true, false, not}
use mathlib.Core.List.{List, [], ◌∷◌}
use mathlib.Core.Logic.{⊎_elim}
use native.Mathlib.Nat.{not-suc-le-zero, le_of_suc-le-suc}
use native.Mathlib.Omega.{arith}
use borrow.Author.Tests.{eq-eqb, ne_eqb, eqb-true, leb-true, leb-false, le-leb, lt-leb, not-false}
use lib.Dec.{eqb, leb}
use lib.ListN.{length, get_or, get_or-eq_default}
use Rattle.lists.specs.Tests.{all, agree}
use Rattle.lists.specs.Trace.{tabulate}
use Rattle.lists.proofs.First.{none-at, none-yes, none-no}
use Rattle.lists.proofs.Choice.{both, lt-or-ge, tested-yes}

-- each test of a list passes
abbrev pub Alls : List Bool → Type 0
Alls [] = Unit {0}
Alls (b ∷ more) = (b ≡ true) × Alls more

pub all_true : (l : List Bool) → all l ≡ true → Alls l
unfolding all
all_true [] e = tt
all_true (b ∷ more) e = let (x, y) = both b (all more) e in (x, all_true more y)

pub agree_at : (f g : ℕ → ℕ) (n : ℕ) → agree f g n ≡ true → (k : ℕ) → k < n → f k ≡ g k
unfolding agree
agree_at f g n e k h = eqb-true (f k) (g k) (not-false _ (none-at (λ j. not (eqb (f j) (g j))) n e k h))

pub agree-yes : (f g : ℕ → ℕ) (n : ℕ) → ((k : ℕ) → k < n → f k ≡ g k) → agree f g n ≡ true
unfolding agree
agree-yes f g n h = none-yes (λ j. not (eqb (f j) (g j))) n (λ k l. ap not (eq-eqb (f k) (g k) (h k l)))

-- two sequences that differ first at i
pub agree-no : (f g : ℕ → ℕ) (n i : ℕ) → i < n → (f i ≡ g i → ⊥) → ((k : ℕ) → k < i → f k ≡ g k) → agree f g n ≡ false
unfolding agree
agree-no f g n i h d b =
    none-no (λ k. not (eqb (f k) (g k))) n i h (ap not (ne_eqb (f i) (g i) d)) (λ k l. ap not (eq-eqb (f k) (g k) (b k l)))

-- an element that is there does not depend on the default
pub get_d_any : (l : List ℕ) (d e i : ℕ) → i < length l → get_or l i d ≡ get_or l i e
get_d_any [] d e i h = absurd (not-suc-le-zero h)
get_d_any (x ∷ xs) d e zero h = refl
get_d_any (x ∷ xs) d e (suc i) h = get_d_any xs d e i (le_of_suc-le-suc h)

-- what holds of 0 and of each element holds at every place
pub get_or-every : (l : List ℕ) (P : ℕ → Type 0) → P 0 → ((k : ℕ) → k < length l → P (get_or l k 0)) → (k : ℕ) → P (get_or l k 0)
get_or-every l P z h k = ⊎_elim (h k) (λ (past : length l ≤ k). rw (get_or-eq_default l 0 past) z) (lt-or-ge k (length l))

-- k words from o on in a list of n: it is too short, it has room for them, they are in it
pub within-short : (n o k : ℕ) → n < k → leb (o + k) n ≡ false
within-short n o k h = lt-leb (o + k) n (omega arith)

pub within-rest : (n o k : ℕ) → k ≤ n → leb o (n - k) ≡ leb (o + k) n
within-rest n o k h = go (leb o (n - k)) refl
  where
    go : (b : Bool) → leb o (n - k) ≡ b → b ≡ leb (o + k) n
    go true e = let l = leb-true o (n - k) e in sym (le-leb (o + k) n (omega arith))
    go false e = let l = leb-false o (n - k) e in sym (lt-leb (o + k) n (omega arith))

pub within-le : (n o k : ℕ) (x : Bool) → x ≡ leb (o + k) n → not x ≡ false → o + k ≤ n
within-le n o k x e h = leb-true (o + k) n (tested-yes x _ e h)

-- a table of equal values, and back
pub tabulate-same : {A : Type 0} (f g : ℕ → A) (n : ℕ) → ((k : ℕ) → k < n → f k ≡ g k) → tabulate f n ≡ tabulate g n
unfolding tabulate
tabulate-same f g zero h = refl
tabulate-same f g (suc n) h = rw (h 0 (omega arith), tabulate-same (λ k. f (suc k)) (λ k. g (suc k)) n (λ k l. h (suc k) (omega arith)))

pub tabulate-at : {A : Type 0} (f g : ℕ → A) (n : ℕ) → tabulate f n ≡ tabulate g n → (k : ℕ) → k < n → f k ≡ g k
unfolding tabulate
tabulate-at f g zero e k h = absurd (not-suc-le-zero h)
tabulate-at f g (suc n) e zero h = cc
tabulate-at f g (suc n) e (suc k) h = tabulate-at (λ j. f (suc j)) (λ j. g (suc j)) n (cc) k (omega arith)

pub tabulate-length : {A : Type 0} (f : ℕ → A) (n : ℕ) → length (tabulate f n) ≡ n
unfolding tabulate
tabulate-length f zero = refl
tabulate-length f (suc n) = ap suc (tabulate-length (λ k. f (suc k)) n)
