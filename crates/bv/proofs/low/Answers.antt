-- Below 64 the remainder by 2 ^ w; at 64 the word itself. Assumes nothing.
use mathlib.Core.Path.{◌≡◌, sym}
use native.Mathlib.Nat.{mod-eq_of_lt}
use native.Mathlib.Omega.{arith}
use lib.Pow.{pow_pos}
use Rattle.bv.proofs.Word.{one_shl}
use Rattle.bv.proofs.low.Goals as goal

pub nonzero_rem-result : goal.nonzero_rem-result
nonzero_rem-result c = rw (one_shl c.args.w c.if-w-lt64.true) (pow_pos _)

pub returns-then-w-lt64 : goal.returns-then-w-lt64
returns-then-w-lt64 c = record { low = rw (one_shl c.args.w c.if-w-lt64.true) }

pub returns-else-w-lt64 : goal.returns-else-w-lt64
returns-else-w-lt64 c = record { low = let e : c.args.w ≡ 64 = omega arith in sym (rw e (mod-eq_of_lt (omega arith))) }
