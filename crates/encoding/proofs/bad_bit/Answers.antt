-- Where the largest byte is at most 1 the search finds none. Assumes nothing.
use mathlib.Core.Path.{sym}
use native.Mathlib.Nat.{le_trans}
use borrow.Author.Tests.{le-ltb}
use Rattle.lists.proofs.First.{first-none}
use Rattle.encoding.specs.Encoding.{bit_bad}
use Rattle.encoding.proofs.bad_bit.Goals as goal

pub returns-then-largest-le1 : goal.returns-then-largest-le1
returns-then-largest-le1 c = record {
  position =
      let s = c.args in
      sym (first-none (bit_bad s.bits.now) _ (λ j h. le-ltb _ _ (le_trans (c.largest.ensures.most j h) c.if-largest-le1.true)));
}
