-- The rows, then the function, which an entry shares with itself. Assumes nothing.
use mathlib.Core.Path.{◌≡◌, ◌∙◌, sym}
use mathlib.Core.Bool.{true}
use borrow.Author.Tests.{eq-eqb}
use Rattle.keys.specs.Keys.{functions_agree}
use Rattle.keys.proofs.Order.{passes, alone}
use Rattle.keys.proofs.Keys.{function-self}
use Rattle.keys.proofs.call_again.Goals as goal

pub returns-then-off-q : goal.returns-then-off-q
returns-then-off-q c = record {
  test =
      let s = c.args in
      let own : functions_agree s.calls.now s.cargs.now s.ws.now s.off s.q ≡ true
      = rw c.if-off-q.true (function-self s.calls.now s.cargs.now s.ws.now s.q) in
      eq-eqb _ _ c.if-off-q.true ∙ sym own ∙ alone _ ∙ passes _ (sym c.call_is.ensures.test ∙ c.if-call_is.true);
}
