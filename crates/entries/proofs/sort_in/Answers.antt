-- Each arm is the definition at its table. Assumes nothing.
use Prim.Native.Nat.{◌+◌, ◌*◌, ◌≤◌}
use mathlib.Core.Path.{refl}
use lib.ListN.{length}
use borrow.Author.Rules.{rules}
use Rattle.entries.proofs.sort_in.Goals as goal
use Rattle.entries.proofs.sort_in.Goals.{In-Reads}

-- a read entry is whole
read_whole : (c : In-Reads)
    → c.args.k * 3 + 3 ≤ length c.args.table.now
read_whole c = rw c.in-Reads.is at c.requires.which_in_bounds

pub overflow_mul-k : goal.overflow_mul-k
overflow_mul-k c = let h = read_whole (goal.at.overflow_mul-k c).In-Reads in search rules

pub overflow_add-k : goal.overflow_add-k
overflow_add-k c = let h = read_whole (goal.at.overflow_add-k c).In-Reads in search rules

pub offset_bounds-table-k : goal.offset_bounds-table-k
offset_bounds-table-k c = let h = read_whole (goal.at.offset_bounds-table-k c).In-Reads in search rules

pub bounds-table-k : goal.bounds-table-k
bounds-table-k c = let h = read_whole (goal.at.bounds-table-k c).In-Reads in search rules

pub sort_of-requires : goal.sort_of-requires
sort_of-requires c = rw c.in-Reads.is at c.requires.sorted

pub returns-in-Reads : goal.returns-in-Reads
returns-in-Reads c = record { sort = rw c.in-Reads.is c.sort_of.ensures.sort }

pub returns-in-Calls : goal.returns-in-Calls
returns-in-Calls c = record { sort = rw c.in-Calls.is (refl, refl) }
