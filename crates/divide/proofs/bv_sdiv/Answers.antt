-- By 0 and the least by -1 apart; any other quotient is an i64 (`sdiv-law`). Assumes nothing.
use Rattle.std.proofs.Common.{sym, ◌∙◌}
use Rattle.divide.proofs.Laws.{sdiv-law, sdiv-zero}
use Rattle.divide.proofs.Machine.{Divides, can-divide, quot-code}
use Rattle.divide.proofs.bv_sdiv.Goals as goal

pub returns-then-is_negative-clause-value : goal.returns-then-is_negative-clause-value
returns-then-is_negative-clause-value c =
    sym (rw (c.if-b-eq0.true, sdiv-zero _ c.args.a.number c.args.a.positive, sym c.is_negative.ensures.sign ∙ c.if-is_negative.true))

pub nonzero_div-signed : goal.nonzero_div-signed
nonzero_div-signed c =
    let a = c.args.a in
    let p : Divides a.width a.number c.args.b.number =
    ((a.positive, a.narrow, a.fits, rw c.requires c.args.b.fits), c.if-b-eq0.false, sym c.overflows.ensures.test ∙ c.if-overflows.false) in
    can-divide _ _ _ _ _ p c.signed.ensures.reads (rw (sym c.requires) at c.signed-2.ensures.reads)

pub returns-clause-value : goal.returns-clause-value
returns-clause-value c =
    let a = c.args.a in
    let p : Divides a.width a.number c.args.b.number =
    ((a.positive, a.narrow, a.fits, rw c.requires c.args.b.fits), c.if-b-eq0.false, sym c.overflows.ensures.test ∙ c.if-overflows.false) in
    c.back.ensures.word ∙ rw (quot-code _ _ _ _ _ p c.signed.ensures.reads (rw (sym c.requires) at c.signed-2.ensures.reads))
    (sym (sdiv-law _ _ _ p.0.0 p.0.2 p.0.3 p.1))
