-- The first wide row ends the search; past the last row there is none. Assumes nothing.
use Rattle.std.proofs.Common.{sym, lt-ltb, arith}
use Rattle.lists.proofs.First.{first-at, first-none}
use Rattle.inputs.specs.Inputs.{row_wide}
use Rattle.inputs.proofs.too_wide.Goals as goal

pub returns-then-w-gt64 : goal.returns-then-w-gt64
returns-then-w-gt64 c = record {
  row =
      sym (first-at (row_wide c.args.ws.now) _ _ c.loop-i-test.true (lt-ltb _ _ c.if-w-gt64.true) c.loop-i.invariant);
}

pub returns : goal.returns
returns c = record { row = sym (first-none (row_wide c.args.ws.now) _ (λ j h. c.loop-i.invariant j (omega arith))) }
