-- A book's verdict in words; its acceptance is sound, since owning the book's slice bounds its target's length. Assumes nothing.
use Prim.Native.Nat.{◌≤◌}
use mathlib.Core.Path.{ap}
use native.Mathlib.Omega.{arith}
use lib.ListN.{length}
use Rattle.answers.specs.Result.{told_of}
use Rattle.rows.specs.Row.{MAX}
use Rattle.reported.proofs.Sound.{book-means}
use Rattle.reported.proofs.judge.Goals as goal

pub returns : goal.returns
returns c =
    let k = c.args in
    let w = c.from.ensures in
    let o = c.judge-a.ensures.outcome in
    -- owning the book's slice bounds its length
    let slice : length k.book.now ≤ MAX = omega arith in
    let m = book-means k.strict _ _ w k.ws0.now k.ws1.now k.classes.now k.entries.now _ _ _ _ k.book.now k.words.now slice o in
    record { outcome = rw w (ap told_of o); sound = m.0; choices = m.1 }
