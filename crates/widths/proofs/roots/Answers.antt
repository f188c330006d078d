-- The first bad root's position, or none. Assumes nothing.
use borrow.Author.Tests.{lt-ltb, le-ltb}
use Rattle.widths.proofs.roots.Goals as goal

pub returns-then-position-roots : goal.returns-then-position-roots
returns-then-position-roots c = record {
  answer = rw (
    c.roots_wf-position.ensures.position,
    lt-ltb _ _ (rw c.roots_wf-position.ensures.position at c.if-position-roots.true),
  );
}

pub returns-else-position-roots : goal.returns-else-position-roots
returns-else-position-roots c = record { answer = rw (le-ltb _ _ (rw c.roots_wf-position.ensures.position at c.if-position-roots.false)) }
