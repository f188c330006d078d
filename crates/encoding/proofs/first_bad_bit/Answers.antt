-- The place that std finds. Assumes nothing.
use mathlib.Core.Path.{◌∙◌, refl}
use borrow.Author.Rules.{rules}
use borrow.Author.Tests.{tests}
use lib.Dec.{ltb}
use Rattle.std.proofs.lemmas.Iterator.{YieldsList-from_slice}
use Rattle.std.proofs.lemmas.Iterator.Search.{position_from_yields_List}
use Rattle.lists.proofs.Search.{first-or-length}
use Rattle.encoding.specs.Encoding.{bit_bad}
use Rattle.encoding.proofs.first_bad_bit.Goals as goal

pub returns : goal.returns
returns c = record {
  position =
      let bits = c.args.bits.now in
      let found = position_from_yields_List (λ b. ltb 1 b) _ _ c.position.result c.position.ensures.ran
      (YieldsList-from_slice _ c.iter.ensures.rest) (λ x b q k. search (rules, tests)) in
      c.unwrap_or.ensures ∙ first-or-length (λ b. ltb 1 b) 0 (bit_bad bits) bits _ found (λ l h. refl);
}
