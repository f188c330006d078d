-- The goals that search leaves open. Assumes nothing.
use mathlib.Core.Path.{refl}
use native.Mathlib.Nat.{sub-zero}
use native.Mathlib.Omega.{arith}
use Rattle.std.specs.declared.result.Result.TheVariants.{Ok, Err}
use Rattle.std.proofs.lemmas.Result.{err_from_is_err_and}
use Rattle.pairs.proofs.Walk.{table-end, table_on, table-stop}
use Rattle.pairs.proofs.table_cong.Goals as goal

pub loop-k-init : goal.loop-k-init
loop-k-init g c = λ troots test needs says. record { kept = rw sub-zero }

pub returns-in_err-idx : goal.returns-in_err-idx
returns-in_err-idx g c = record {
  walk = λ troots test needs says.
      let stop = table-stop (c.loop-k.invariant troots test needs says) c.loop-k-test.true (Err c.in_err-idx.field-0.0)
      (says c.loop-k.k c.loop-k.idx _ c.loop-k-test.true c.in_err-idx.ensures) c.in_err-idx.field-0.0 refl in
      let p = err_from_is_err_and c.from_residual.result c.from_residual.ensures.1 in
      rw (p.1, p.2) stop;
}

pub loop-k-preserved : goal.loop-k-preserved
loop-k-preserved g c = λ troots test needs says.
    table_on (c.loop-k.invariant troots test needs says) c.loop-k-test.true (Ok c.in_ok-idx.idx)
    (says c.loop-k.k c.loop-k.idx _ c.loop-k-test.true c.in_ok-idx.ensures) c.in_ok-idx.idx refl

pub returns : goal.returns
returns g c = record { walk = λ troots test needs says. table-end (c.loop-k.invariant troots test needs says) (omega arith) }
