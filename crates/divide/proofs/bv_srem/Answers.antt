-- By 0 and the least by -1 apart; any other remainder is an i64 (`srem-law`). Assumes nothing.
use Rattle.std.proofs.Common.{sym, ◌∙◌}
use Rattle.divide.proofs.Laws.{srem-law, srem-zero}
use Rattle.divide.proofs.Machine.{Divides, can-divide, rem-code}
use Rattle.divide.proofs.bv_srem.Goals as goal

pub returns-then-b-eq0-clause-value : goal.returns-then-b-eq0-clause-value
returns-then-b-eq0-clause-value c = sym (rw c.if-b-eq0.true (srem-zero _ _ c.args.a.fits))

pub nonzero_rem-signed : goal.nonzero_rem-signed
nonzero_rem-signed c =
    let a = c.args.a in
    let p : Divides a.width a.number c.args.b.number =
    ((a.positive, a.narrow, a.fits, rw c.requires c.args.b.fits), c.if-b-eq0.false, sym c.overflows.ensures.test ∙ c.if-overflows.false) in
    can-divide _ _ _ _ _ p c.signed.ensures.reads (rw (sym c.requires) at c.signed-2.ensures.reads)

pub returns-clause-value : goal.returns-clause-value
returns-clause-value c =
    let a = c.args.a in
    let p : Divides a.width a.number c.args.b.number =
    ((a.positive, a.narrow, a.fits, rw c.requires c.args.b.fits), c.if-b-eq0.false, sym c.overflows.ensures.test ∙ c.if-overflows.false) in
    c.back.ensures.word ∙ rw (rem-code _ _ _ _ _ p c.signed.ensures.reads (rw (sym c.requires) at c.signed-2.ensures.reads))
    (sym (srem-law _ _ _ p.0.0 p.0.2 p.0.3))
