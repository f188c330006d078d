-- Below 64 the power less one; at 64 the constant. Assumes nothing.
use mathlib.Core.Path.{◌≡◌}
use native.Mathlib.Omega.{arith}
use lib.Pow.{pow_pos}
use Rattle.bv.proofs.Word.{one_shl}
use Rattle.bv.proofs.ones.Goals as goal

pub overflow_sub-result : goal.overflow_sub-result
overflow_sub-result c = rw (one_shl c.args.w c.if-w-lt64.true) (pow_pos _)

pub returns-then-w-lt64 : goal.returns-then-w-lt64
returns-then-w-lt64 c = record { ones = rw (one_shl c.args.w c.if-w-lt64.true) }

pub returns-else-w-lt64 : goal.returns-else-w-lt64
returns-else-w-lt64 c = record { ones = let e : c.args.w ≡ 64 = omega arith in rw e }
