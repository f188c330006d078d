-- The goals that search leaves open. Assumes nothing.
use native.Mathlib.Nat.{not-suc-le-zero}
use native.Mathlib.Omega.{arith}
use Rattle.sorts.proofs.Sorts.{lower-half, upper-half}
use Rattle.sorts.proofs.lower_bound.Goals as goal

pub loop-low-init : goal.loop-low-init
loop-low-init c = (omega arith, omega arith, λ k h. absurd (not-suc-le-zero h), λ k h l. absurd (omega arith))

pub loop-low-preserved-then-table-middle : goal.loop-low-preserved-then-table-middle
loop-low-preserved-then-table-middle c =
    let l = c.loop-low in
    let p = c.before.before.before.before in (
      omega arith,
      omega arith,
      lower-half p.args.table.now p.args.n p.requires.by_index p.args.array _ (omega arith) c.if-table-middle.true,
      l.invariant.3,
    )

pub loop-low-preserved : goal.loop-low-preserved
loop-low-preserved c =
    let l = c.loop-low in
    let p = c.before.before.before.before in (
      omega arith,
      omega arith,
      l.invariant.2,
      upper-half p.args.table.now p.args.n p.requires.by_index p.args.array _ (omega arith)
          c.if-table-middle.false,
    )

pub returns : goal.returns
returns c = record {
  bound =
      let l = c.loop-low in
      (omega arith, l.invariant.2, λ k h m. l.invariant.3 k (omega arith) m);
}
