-- The shift in a word keeps the low bits of the width (`shl-law`). Assumes nothing.
use Rattle.std.proofs.Common.{◌∙◌, sym}
use Rattle.bv.proofs.Word.{mod-under}
use Rattle.bitwise.proofs.Shift.{shl-law}
use Rattle.bitwise.proofs.bv_shl.Goals as goal

pub returns-then-b-a-clause-value : goal.returns-then-b-a-clause-value
returns-then-b-a-clause-value c =
    c.nat2bv.ensures.value ∙ mod-under _ _ c.args.a.narrow ∙ sym (shl-law c.args.a.width c.args.a.number c.args.b.number)
