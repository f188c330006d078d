-- A word without the top bit is read as it is. Assumes nothing.
use Rattle.std.proofs.Common.{sym, ◌∙◌}
use Rattle.divide.proofs.Machine.{low-code}
use Rattle.divide.proofs.signed.Goals as goal

pub returns-else-is_negative : goal.returns-else-is_negative
returns-else-is_negative c = record {
  reads =
      let a = c.args.a in
      low-code a.width a.number (a.positive, a.narrow, a.fits) (sym c.is_negative.ensures.sign ∙ c.if-is_negative.false);
}
