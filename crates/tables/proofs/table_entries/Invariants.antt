-- Invariant: the entries before k are good, and each has left the class and its offset at its variable. Assumes nothing.
use Prim.Native.Nat.{◌*◌}
use Rattle.entries.specs.Entries.{good}
use Rattle.tables.proofs.Marks.{Marked}
use Rattle.tables.proofs.table_entries.Given as goal

abbrev pub invariant-loop-k : goal.invariant-loop-k
invariant-loop-k l =
    Marked l.table l.w l.class (good l.which l.table l.target l.ws) l.initial.cls l.initial.ent l.cls l.ent (l.k * l.w) l.k
