-- The goals that search leaves open. Assumes nothing.
use Prim.Native.Nat.{◌≤◌, ◌<◌, ◌+◌, ◌*◌}
use mathlib.Core.Path.{◌≡◌, refl, ◌∙◌, sym, ap}
use mathlib.Core.Bool.{true, not}
use native.Mathlib.Omega.{arith}
use borrow.Author.Rules.{rules}
use lib.ListN.{length, get_or}
use Rattle.lowering.specs.Tables.{entry_count}
use Rattle.entries.specs.Entries.{good}
use Rattle.entries.proofs.Entry.{stride-pos, inside, past, in-table, past-table, good-whole, args-within}
use Rattle.tables.proofs.Marks.{marked-none, marked-stop, marked_more, marked-end}
use Rattle.tables.proofs.table_entries.Goals as goal
use Rattle.tables.proofs.table_entries.Goals.{Else-not-entry_good, In-loop-k}

pub loop-k-init : goal.loop-k-init
loop-k-init c =
    let s = c.args in
    let m =
    marked-none s.table.now s.w s.class (good s.which s.table.now s.target.now s.ws.now)
    s.cls.now s.ent.now in
    (refl, m.1, m.2, m.3, m.4, m.5, m.6)

-- in the loop the entry's offset lies in the table, and it counts
lies : (c : In-loop-k) → c.loop-k.k * c.args.w < length c.args.table.now
lies c =
    let s = c.args in
    in-table (length s.table.now) s.w c.loop-k.k (stride-pos s.which s.w c.requires.w_value) (rw c.div_ceil-count.ensures at c.loop-k-test.true)

counts : (c : In-loop-k) → c.loop-k.k < entry_count c.args.w c.args.table.now
counts c =
    let s = c.args in
    let l = c.loop-k in
    inside s.w (stride-pos s.which s.w c.requires.w_value) s.table.now (l.k * s.w) l.k l.invariant.0 (lies c)

pub entry_good-requires : goal.entry_good-requires
entry_good-requires c =
    let i = c.loop-k.invariant in
    record {
      w_value = (c.requires.w_value, i.0, lies (goal.at.entry_good-requires c).In-loop-k);
      sorted = c.requires.sorted;
      args_before = args-within c.args.which _ c.args.target.now c.args.ws.now _ _ i.6;
      cls_len = i.2 ∙ c.requires.cls_len;
    }

pub returns-then-not-entry_good : goal.returns-then-not-entry_good
returns-then-not-entry_good c =
    let s = c.args in
    let l = c.loop-k in
    let p =
    marked-stop s.table.now s.w s.class (good s.which s.table.now s.target.now s.ws.now) s.cls.now s.ent.now l.cls l.ent (l.k * s.w)
    l.k l.invariant _
    (counts (goal.at.returns-then-not-entry_good c).In-loop-k) c.entry_good.ensures.test (ap not c.if-not-entry_good.true) in
    record { entry = p.0; classes = p.1.0; offsets = p.1.1 }

-- the entry is good: it is whole, and its variable has a place in both lists
is-good : (c : Else-not-entry_good)
    → let s = c.args in
    good s.which s.table.now s.target.now s.ws.now c.loop-k.cls c.loop-k.k ≡ true
is-good c = sym c.entry_good.ensures.test ∙ c.if-not-entry_good.false

fits : (c : Else-not-entry_good)
    → let s = c.args in
    let l = c.loop-k in
    (l.k * s.w + s.w ≤ length s.table.now) × (get_or s.table.now (l.k * s.w) 0 < length l.cls)
    × (get_or s.table.now (l.k * s.w) 0 < length l.ent)
fits c =
    let s = c.args in
    let l = c.loop-k in
    let (a, d) = good-whole s.which _ _ _ _ l.k s.w (l.k * s.w) c.requires.w_value l.invariant.0 (is-good c) in
    (a, rw (l.invariant.2, c.requires.cls_len) d, rw (l.invariant.3, c.requires.ent_len) d)

pub offset_bounds-cls-v : goal.offset_bounds-cls-v
offset_bounds-cls-v c = let h = (fits (goal.at.offset_bounds-cls-v c).Else-not-entry_good).1 in search rules

pub bounds-cls-v : goal.bounds-cls-v
bounds-cls-v c = (fits (goal.at.bounds-cls-v c).Else-not-entry_good).1

pub offset_bounds-ent-v : goal.offset_bounds-ent-v
offset_bounds-ent-v c = let h = (fits (goal.at.offset_bounds-ent-v c).Else-not-entry_good).2 in search rules

pub bounds-ent-v : goal.bounds-ent-v
bounds-ent-v c = (fits (goal.at.bounds-ent-v c).Else-not-entry_good).2

pub overflow_mul-off : goal.overflow_mul-off
overflow_mul-off c = let h = lies (goal.at.overflow_mul-off c).In-loop-k in omega (arith, h)

pub offset_bounds-table-off : goal.offset_bounds-table-off
offset_bounds-table-off c = let h = lies (goal.at.offset_bounds-table-off c).In-loop-k in search rules

pub bounds-table-off : goal.bounds-table-off
bounds-table-off c = lies (goal.at.bounds-table-off c).In-loop-k

pub loop-k-preserved : goal.loop-k-preserved
loop-k-preserved c =
    let s = c.args in
    let l = c.loop-k in
    let m =
    marked_more s.table.now s.w s.class (good s.which s.table.now s.target.now s.ws.now) s.cls.now s.ent.now l.cls l.ent (l.k * s.w)
    l.k l.invariant
    (counts (goal.at.loop-k-preserved c).In-loop-k) (is-good (goal.at.loop-k-preserved c).Else-not-entry_good) in
    (refl, m.1, m.2, m.3, m.4, m.5, m.6)

pub returns : goal.returns
returns c =
    let s = c.args in
    let l = c.loop-k in
    let pos = stride-pos s.which s.w c.requires.w_value in
    let all : c.div_ceil-count.result ≡ l.k = omega arith in
    let end = past-table (length s.table.now) s.w l.k pos (rw c.div_ceil-count.ensures at c.loop-k-test.false) in
    let p =
    marked-end s.table.now s.w s.class (good s.which s.table.now s.target.now s.ws.now) s.cls.now s.ent.now l.cls l.ent (l.k * s.w)
    l.k l.invariant
    (past s.w pos s.table.now (l.k * s.w) l.k l.invariant.0 end) in
    record { entry = rw all p.0; classes = rw all p.1.0; offsets = rw all p.1.1 }
