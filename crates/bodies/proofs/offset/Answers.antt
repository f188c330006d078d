-- One section's words more, and no more words than bytes. Assumes nothing.
use Rattle.std.proofs.Common.{◌≡◌, ◌≤◌, ◌+◌, length, rules, arith}
use Rattle.bodies.specs.Words.{loaded}
use Rattle.bodies.proofs.Words.{loaded-none, offset-more, loaded-fits}
use Rattle.bodies.proofs.offset.Goals as goal

pub loop-k-init : goal.loop-k-init
loop-k-init c = loaded-none c.args.book.bytes.now

pub overflow_add-at : goal.overflow_add-at
overflow_add-at c =
    let b = c.args.book.bytes.now in
    let e : c.loop-k.at + c.word_count-at.result ≡ length (loaded b (c.loop-k.k + 1)) =
    offset-more b _ _ _ c.loop-k.invariant c.word_count-at.ensures.count in
    let h : length (loaded b (c.loop-k.k + 1)) ≤ length b = loaded-fits b c.args.book.good (c.loop-k.k + 1) (omega (arith, c.requires)) in
    let m : c.loop-k.at + c.word_count-at.result ≤ length b = omega arith in
    search rules

pub loop-k-preserved : goal.loop-k-preserved
loop-k-preserved c = offset-more c.args.book.bytes.now _ _ _ c.loop-k.invariant c.word_count-at.ensures.count
