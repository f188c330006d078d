-- The answer to the counts of words, refusal by refusal. Assumes nothing.
use Prim.Native.Nat.{ℕ, ◌/◌, ◌%◌, ◌<◌, ◌≤◌}
use mathlib.Core.Path.{◌≡◌}
use borrow.Author.Tests.{eq-eqb, ne_eqb, lt-ltb, le-ltb}
use lib.ListN.{length}
use Rattle.answers.specs.Answer.{Answer}
use Rattle.answers.specs.Answer.{Accepted, RowCount, WorkShort}
use Rattle.lowering.specs.Lowering.{SourceGraph, TargetGraph}
use Rattle.lowering.specs.Check.{first_refusal, count_answers}

-- a source and a target of n and m words
module _ (n m w0 w1 c e : ℕ) (S : SourceGraph) (T : TargetGraph) (en : length S.rows ≡ n) (em : length T.rows ≡ m) where
  abbrev answer : Answer
  answer = first_refusal (count_answers S T w0 w1 c e)

  pub count-source : (n % 5 ≡ 0 → ⊥) → RowCount 1 ≡ answer
  unfolding first_refusal
  count-source a = rw (en, ne_eqb _ _ a)

  module _ (a : n % 5 ≡ 0) where
    pub count-target : (m % 4 ≡ 0 → ⊥) → RowCount 2 ≡ answer
    unfolding first_refusal
    count-target b = rw (en, em, eq-eqb _ _ a, ne_eqb _ _ b)

    module _ (b : m % 4 ≡ 0) where
      pub short-1 : w0 < n / 5 → WorkShort 1 ≡ answer
      unfolding first_refusal
      short-1 h = rw (en, em, eq-eqb _ _ a, eq-eqb _ _ b, lt-ltb _ _ h)

      module _ (r0 : n / 5 ≤ w0) where
        pub short-2 : w1 < m / 4 → WorkShort 2 ≡ answer
        unfolding first_refusal
        short-2 h = rw (en, em, eq-eqb _ _ a, eq-eqb _ _ b, le-ltb _ _ r0, lt-ltb _ _ h)

        module _ (r1 : m / 4 ≤ w1) where
          pub short-3 : c < m / 4 → WorkShort 3 ≡ answer
          unfolding first_refusal
          short-3 h = rw (en, em, eq-eqb _ _ a, eq-eqb _ _ b, le-ltb _ _ r0, le-ltb _ _ r1, lt-ltb _ _ h)

          module _ (r2 : m / 4 ≤ c) where
            pub short-4 : e < m / 4 → WorkShort 4 ≡ answer
            unfolding first_refusal
            short-4 h = rw (en, em, eq-eqb _ _ a, eq-eqb _ _ b, le-ltb _ _ r0, le-ltb _ _ r1, le-ltb _ _ r2, lt-ltb _ _ h)

            pub count-good : m / 4 ≤ e → Accepted ≡ answer
            unfolding first_refusal
            count-good r3 = rw (en, em, eq-eqb _ _ a, eq-eqb _ _ b, le-ltb _ _ r0, le-ltb _ _ r1, le-ltb _ _ r2, le-ltb _ _ r3)
