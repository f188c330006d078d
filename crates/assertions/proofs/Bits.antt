-- The refusals of roots that are no rows of one bit, by the positions that two searches found. Assumes nothing.
use Prim.Native.Nat.{ℕ, ◌<◌, ◌≤◌}
use mathlib.Core.Path.{◌≡◌}
use mathlib.Core.Bool.{Bool, true, false}
use mathlib.Core.List.{List}
use borrow.Author.Tests.{lt-ltb, le-ltb}
use lib.ListN.{length}
use Rattle.answers.specs.Answer.{Answer}
use Rattle.answers.specs.Answer.{Accepted, BadRoot}
use Rattle.wf.specs.Widths.{bad_root}
use Rattle.lowering.specs.Check.{first_refusal, bit_answers}

module _ (strict : Bool) (ws0 eroots ws1 troots : List ℕ) where
  abbrev answer : Answer
  answer = first_refusal (bit_answers strict ws0 eroots ws1 troots)

  pub not-asked : strict ≡ false → Accepted ≡ answer
  unfolding first_refusal
  not-asked e = rw e

  module _ (asked : strict ≡ true) (x : ℕ) (source : x ≡ bad_root ws0 eroots) where
    pub source-19 : x < length eroots → BadRoot x 1 ≡ answer
    unfolding first_refusal
    source-19 h = rw (asked, ← source, lt-ltb _ _ h)

    module _ (left : length eroots ≤ x) (y : ℕ) (target : y ≡ bad_root ws1 troots) where
      pub target-19 : y < length troots → BadRoot y 2 ≡ answer
      unfolding first_refusal
      target-19 h = rw (asked, ← source, ← target, le-ltb _ _ left, lt-ltb _ _ h)

      pub one-bit-roots : length troots ≤ y → Accepted ≡ answer
      unfolding first_refusal
      one-bit-roots h = rw (asked, ← source, ← target, le-ltb _ _ left, le-ltb _ _ h)
