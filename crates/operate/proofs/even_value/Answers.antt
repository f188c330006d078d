-- Add by its tag; the last tag is Srem's, as no other is left. Assumes nothing.
use Rattle.std.proofs.Common.{◌≡◌, arith}
use Rattle.rows.proofs.View.{node-two}
use Rattle.operate.proofs.even_value.Goals as goal

pub returns-in-2 : goal.returns-in-2
returns-in-2 c = record { value = rw c.in-2.is c.bv_add.ensures.value }

pub returns-in_default : goal.returns-in_default
returns-in_default c = record {
  value =
      let e : c.args.t ≡ 36 = grind (arith, node-two _ c.requires.0) in
      rw e c.bv_srem.ensures.value;
}
