-- The goals that search leaves open. Assumes nothing.
use Rattle.std.proofs.Common.{◌<◌, length, arith}
use Rattle.bodies.proofs.Words.{read_none, read_more}
use Rattle.bodies.proofs.read_words.Goals as goal

pub loop-j-init : goal.loop-j-init
loop-j-init c = read_none c.args.bytes.now c.args.out.now

pub loop-j-preserved : goal.loop-j-preserved
loop-j-preserved c =
    let h : c.loop-j.j < length c.args.out.now = omega arith in
    read_more c.args.bytes.now c.args.out.now _ _ _ c.loop-j.invariant c.word.ensures.value h
