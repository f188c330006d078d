-- Laws of marks in a list, and what the walk over a table keeps. Assumes nothing.
use Prim.Native.Nat.{ℕ, ◌+◌, ◌*◌, ◌<◌, ◌≤◌, zero-le}
use mathlib.Core.Path.{◌≡◌, refl, sym, ap, ◌∙◌}
use mathlib.Core.Bool.{Bool, true, false, not}
use mathlib.Core.List.{List}
use native.Mathlib.Nat.{not-suc-le-zero, zero-mul}
use native.Mathlib.Numerals.{add-one}
use native.Mathlib.Omega.{arith}
use borrow.Author.Count.{below_more}
use lib.ListN.{length, get_or, set, length-set}
use Rattle.lists.specs.Trace.{trace, marks}
use Rattle.lists.proofs.First.{first-at, first_past}
use Rattle.lowering.specs.Tables.{entry_count, table_classes, table_offsets, bad_entry}
use Rattle.keys.proofs.Search.{offset-next}

module _ (place number : ℕ → ℕ) (l : List ℕ) where
  pub marks-none : l ≡ marks place number l 0
  unfolding trace
  marks-none = refl

  -- one more mark
  pub marks-more : (k : ℕ) {m : List ℕ} {v n : ℕ} → m ≡ marks place number l k → v ≡ place k → n ≡ number k
      → set m v n ≡ marks place number l (k + 1)
  unfolding trace
  marks-more k e p q = rw (add-one, e, p, q)

-- the walk over a table of w words an entry: the entries before k are good, and each has left the class and its offset at its variable
module _ (table : List ℕ) (w class : ℕ) (good : List ℕ → ℕ → Bool) (cls₀ ent₀ : List ℕ) where
  abbrev bad : ℕ → Bool
  bad k = not (good (table_classes w class table cls₀ k) k)

  abbrev pub Marked : List ℕ → List ℕ → ℕ → ℕ → Type 0
  Marked cls ent off k =
      (off ≡ k * w) × (k ≤ entry_count w table) × (length cls ≡ length cls₀) × (length ent ≡ length ent₀) × (cls ≡ table_classes w class table cls₀ k)
      × (ent ≡ table_offsets w table ent₀ k) × ((j : ℕ) → j < k → bad j ≡ false)

  -- what the walk leaves: the first bad entry, or the number of entries, and the marks of those before it
  abbrev Left : List ℕ → List ℕ → ℕ → Type 0
  Left cls ent k = (k ≡ bad_entry w class good table cls₀) × ((cls ≡ table_classes w class table cls₀ k) × (ent ≡ table_offsets w table ent₀ k))

  pub marked-none : Marked cls₀ ent₀ 0 0
  marked-none = (sym (zero-mul w), zero-le, refl, refl, marks-none _ _ _, marks-none _ _ _, λ j l. absurd (not-suc-le-zero l))

  module _ (cls ent : List ℕ) (off k : ℕ) (m : Marked cls ent off k) where
    pub marked-stop : (b : Bool) → k < entry_count w table → b ≡ good cls k → not b ≡ true → Left cls ent k
    marked-stop b h e n = (sym (first-at bad (entry_count w table) k h (ap not (rw m.4 at (sym e)) ∙ n) m.6), (m.4, m.5))

    pub marked_more : k < entry_count w table → good cls k ≡ true
        → Marked (set cls (get_or table off 0) class) (set ent (get_or table off 0) off) (off + w) (k + 1)
    marked_more h g =
        let v = ap (λ (z : ℕ). get_or table z 0) m.0 in (
          offset-next w k off m.0,
          omega arith,
          simp length-set m.2,
          simp length-set m.3,
          marks-more _ _ _ _ m.4 v refl,
          marks-more _ _ _ _ m.5 v m.0,
          below_more _ _ m.6 (ap not (rw m.4 at g)),
        )

    pub marked-end : entry_count w table ≤ k → Left cls ent k
    marked-end h = (sym (first_past bad (entry_count w table) k m.1 h m.6), (m.4, m.5))
