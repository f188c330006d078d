-- Laws of the width rules. Assumes nothing.
use Prim.Native.Nat.{ℕ, ◌+◌, ◌*◌, ◌<◌, ◌≤◌, ◌^◌}
use mathlib.Core.Path.{◌≡◌, refl, sym, ◌∙◌}
use mathlib.Core.Bool.{Bool, true, false, cond}
use mathlib.Core.List.{List}
use native.Mathlib.Omega.{arith}
use borrow.Author.Tests.{le-leb, lt-leb, leb-false, ne_eqb, eqb-true}
use lib.Dec.{eqb, leb}
use lib.ListN.{length}
use Rattle.lists.specs.First.{none}
use Rattle.rows.specs.Row.{MAX}
use Rattle.rules.specs.Rule.{capped, ceiling, same, entries_good}
use Rattle.rules.specs.Table.{in_word}

-- a word, and what is none
pub in-word : (w : ℕ) → w < 2 ^ 64 → in_word w ≡ w
in-word w h = rw (le-leb w MAX (omega arith))

pub past_word : (w : ℕ) → MAX < w → in_word w ≡ 0
past_word w h = rw (lt-leb w MAX h)

-- a width within the ceiling, and one that passes it
pub capped-in : (w : ℕ) → w ≤ ceiling → capped w ≡ w
capped-in w h = rw (le-leb w ceiling h)

pub capped-over : (w : ℕ) → ceiling < w → capped w ≡ 0
capped-over w h = rw (lt-leb w ceiling h)

-- what is no word passes the ceiling too
capped-word : (w : ℕ) → capped (in_word w) ≡ capped w
capped-word w = go (leb w MAX) refl
  where
    go : (t : Bool) → leb w MAX ≡ t → capped (cond t w 0) ≡ capped w
    go true e = refl
    go false e = sym (capped-over w (omega (arith, leb-false w MAX e)))

-- the same behind two tests
pub capped-tested : (p q : Bool) (w : ℕ) → capped (cond p (cond q (in_word w) 0) 0) ≡ cond p (cond q (capped w) 0) 0
capped-tested true true w = capped-word w
capped-tested true false w = refl
capped-tested false q w = refl

-- a rule that a test decides: the width passes, or there is none
module _ (rule : ℕ → ℕ) {r : Bool} (decides : (w : ℕ) → rule w ≡ cond r w 0) where
  pub passed : r ≡ true → (w v : ℕ) → v ≡ in_word w → v ≡ in_word (rule w)
  passed t w v e = rw (decides w, t) e

  pub stopped : r ≡ false → (w : ℕ) → 0 ≡ in_word (rule w)
  stopped t w = rw (decides w, t)

-- a choice between 0 and 0, and the same choice again
pub either-zero : (b : Bool) → ◌≡◌ {A = ℕ} (cond b 0 0) 0
either-zero true = refl
either-zero false = refl

pub choice-again : (b : Bool) (w : ℕ) → cond b (cond b w 0) 0 ≡ cond b w 0
choice-again true w = refl
choice-again false w = refl

-- two widths that differ are not both of one bit
pub not-both : (a b w : ℕ) → (a ≡ b → ⊥) → same a 1 (same b 1 w) ≡ 0
not-both a b w n = go (eqb a 1) refl
  where
    go : (t : Bool) → eqb a 1 ≡ t → cond t (same b 1 w) 0 ≡ 0
    go true e = rw (ne_eqb b 1 (λ f. n (eqb-true a 1 e ∙ sym f)))
    go false e = refl

-- entries of a side list that run past its end, and that lie in it
module _ (words : ℕ) (bad : ℕ → Bool) (side : List ℕ) (s k : ℕ) (some : k ≡ 0 → ⊥) where
  pub entries_over : length side < s + words * k → entries_good words bad side s k ≡ false
  entries_over h = rw (ne_eqb k 0 some, lt-leb (s + words * k) (length side) h)

  pub entries-in : s + words * k ≤ length side → entries_good words bad side s k ≡ none bad k
  entries-in h = rw (ne_eqb k 0 some, le-leb (s + words * k) (length side) h)
