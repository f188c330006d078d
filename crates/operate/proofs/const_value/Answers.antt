-- One more bit below, and the room that a word has for it. Assumes nothing.
use Rattle.std.proofs.Common.{sym, ◌+◌, arith}
use Rattle.operate.proofs.Constant.{const_step, const-room, const-none}
use Rattle.operate.proofs.const_value.Goals as goal

pub loop-k-init : goal.loop-k-init
loop-k-init c = const-none c.args.bits.now (c.args.s + c.args.w) c.args.w

pub overflow_mul-v : goal.overflow_mul-v
overflow_mul-v c =
    let l = c.loop-k in
    let r = const-room c.args.bits.now c.args.s c.args.w l.k (omega arith) l.auto.k c.requires.1 c.requires.2 in
    rw l.invariant (omega arith)

pub overflow_add-v : goal.overflow_add-v
overflow_add-v c =
    let l = c.loop-k in
    let r = const-room c.args.bits.now c.args.s c.args.w l.k (omega arith) l.auto.k c.requires.1 c.requires.2 in
    rw (l.invariant, c.from.ensures) (omega arith)

pub loop-k-preserved : goal.loop-k-preserved
loop-k-preserved c =
    let l = c.loop-k in
    rw (l.invariant, c.from.ensures) (sym (const_step c.args.bits.now c.args.s c.args.w l.k (omega arith) l.auto.k))
