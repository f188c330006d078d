-- The seven tests in their order; a law for each refusal. No row before a stop is badly encoded. Assumes nothing.
use Prim.Native.Nat.{◌≤◌}
use mathlib.Core.Path.{◌≡◌, sym, ap, ◌∙◌}
use mathlib.Core.Bool.{true}
use mathlib.Core.List.{[]}
use native.Mathlib.Omega.{arith}
use lib.ListN.{length}
use Rattle.std.proofs.lemmas.Result.{err_from_is_err_and}
use Rattle.answers.specs.Answer.{is_accepted}
use Rattle.rows.specs.declared.Graph.TheVariants.{Source, Target}
use Rattle.rows.specs.Row.{row_count}
use Rattle.encoding.specs.Encoding.{bad_row, bad_bit}
use Rattle.lowering.specs.Asked.{lowering_of}
use Rattle.lowering.specs.Lowering.{SourceGraph, TargetGraph, source_graph}
use Rattle.forms.proofs.Form.{bad-row-le, bad-source, bad-target, bit-source, bit-target, unsorted, ill-source, ill-target, graphs-good}
use Rattle.forms.proofs.graph_answer.Goals as goal
use Rattle.forms.proofs.graph_answer.Goals.{Start, Else-row0-row_count, Else-row1-row_count, Else-bit0-source, Else-bit1-target, In_ok-sort}

-- the two graphs at the start
abbrev source : Start → SourceGraph
source c = source_graph c.args.asked.now.source.rows.now c.args.asked.now.source.bits.now []

abbrev target : Start → TargetGraph
target c = (lowering_of c.args.asked.now).target

pub returns-then-row0-row_count : goal.returns-then-row0-row_count
returns-then-row0-row_count c = record {
  answer =
      let s = (goal.at.returns-then-row0-row_count c).Start in
      rw c.bad_row-row0.ensures.row
      (sym (bad-source c.args.sort (source s) (target s) _ _ (rw (c.bad_row-row0.ensures.row, c.row_count.ensures.count) at
      c.if-row0-row_count.true)));
}

-- what each test says: the source's rows are good, the target's rows, the source's bits, the target's bits, the table
rows-0 : (c : Else-row0-row_count) → (let r = c.args.asked.now.source.rows.now in row_count Source r ≤ bad_row Source r)
rows-0 c = rw (c.bad_row-row0.ensures.row, c.row_count.ensures.count) at c.if-row0-row_count.false

rows-1 : (c : Else-row1-row_count) → (let r = c.args.asked.now.target.rows.now in row_count Target r ≤ bad_row Target r)
rows-1 c = rw (c.bad_row-row1.ensures.row, c.row_count-2.ensures.count) at c.if-row1-row_count.false

bits-0 : (c : Else-bit0-source) → length c.args.asked.now.source.bits.now ≤ bad_bit c.args.asked.now.source.bits.now
bits-0 c = rw c.bad_bit-bit0.ensures.position at c.if-bit0-source.false

bits-1 : (c : Else-bit1-target) → length c.args.asked.now.target.bits.now ≤ bad_bit c.args.asked.now.target.bits.now
bits-1 c = rw c.bad_bit-bit1.ensures.position at c.if-bit1-target.false

sorted : (c : In_ok-sort) → is_accepted c.args.sort ≡ true
sorted c = ap is_accepted c.in_ok-sort.was

pub returns-then-row1-row_count : goal.returns-then-row1-row_count
returns-then-row1-row_count c = record {
  answer =
      let t = goal.at.returns-then-row1-row_count c in
      rw c.bad_row-row1.ensures.row
      (sym (bad-target c.args.sort (source t.Start) (target t.Start) _ _ (rows-0 t.Else-row0-row_count)
      (rw (c.bad_row-row1.ensures.row, c.row_count-2.ensures.count) at c.if-row1-row_count.true)));
}

pub returns-then-bit0-source : goal.returns-then-bit0-source
returns-then-bit0-source c = record {
  answer =
      let t = goal.at.returns-then-bit0-source c in
      rw c.bad_bit-bit0.ensures.position
      (sym (bit-source c.args.sort (source t.Start) (target t.Start) _ _ (rows-0 t.Else-row0-row_count) (rows-1 t.Else-row1-row_count)
      (rw c.bad_bit-bit0.ensures.position at c.if-bit0-source.true)));
}

pub returns-then-bit1-target : goal.returns-then-bit1-target
returns-then-bit1-target c = record {
  answer =
      let t = goal.at.returns-then-bit1-target c in
      rw c.bad_bit-bit1.ensures.position
      (sym (bit-target c.args.sort (source t.Start) (target t.Start) _ _ (rows-0 t.Else-row0-row_count) (rows-1 t.Else-row1-row_count)
      (bits-0 t.Else-bit0-source) (rw c.bad_bit-bit1.ensures.position at c.if-bit1-target.true)));
}

pub returns-in_err-sort : goal.returns-in_err-sort
returns-in_err-sort c = record {
  answer =
      let t = goal.at.returns-in_err-sort c in
      let q = err_from_is_err_and c.from_residual.result c.from_residual.ensures.1 in
      rw (q.1, q.2)
      (sym c.in_err-sort.was
      ∙ sym (unsorted c.args.sort (source t.Start) (target t.Start) _ _ (rows-0 t.Else-row0-row_count) (rows-1 t.Else-row1-row_count)
      (bits-0 t.Else-bit0-source) (bits-1 t.Else-bit1-target) (ap is_accepted c.in_err-sort.was)));
}

pub returns-then-stop0-row0 : goal.returns-then-stop0-row0
returns-then-stop0-row0 c = record {
  answer =
      let t = goal.at.returns-then-stop0-row0 c in
      let l = bad-row-le Source c.args.asked.now.source.rows.now in
      let h = rw c.bad_row-row0.ensures.row at c.if-stop0-row0.true in
      sym (ill-source c.args.sort (source t.Start) (target t.Start) _ _ (rows-0 t.Else-row0-row_count) (rows-1 t.Else-row1-row_count)
      (bits-0 t.Else-bit0-source) (bits-1 t.Else-bit1-target) (sorted t.In_ok-sort) (omega arith));
}

pub returns-then-stop1-row1 : goal.returns-then-stop1-row1
returns-then-stop1-row1 c = record {
  answer =
      let t = goal.at.returns-then-stop1-row1 c in
      let l = bad-row-le Target c.args.asked.now.target.rows.now in
      let h = rw c.bad_row-row1.ensures.row at c.if-stop1-row1.true in
      let e = rw c.bad_row-row0.ensures.row at c.if-stop0-row0.false in
      let f = rows-0 t.Else-row0-row_count in
      let g = rows-1 t.Else-row1-row_count in
      sym (ill-target c.args.sort (source t.Start) (target t.Start) _ _ f g (bits-0 t.Else-bit0-source) (bits-1 t.Else-bit1-target)
      (sorted t.In_ok-sort) (omega arith) (omega arith));
}

pub returns : goal.returns
returns c = record {
  answer =
      let t = goal.at.returns c in
      let l = bad-row-le Target c.args.asked.now.target.rows.now in
      let h = rw c.bad_row-row1.ensures.row at c.if-stop1-row1.false in
      let e = rw c.bad_row-row0.ensures.row at c.if-stop0-row0.false in
      let f = rows-0 t.Else-row0-row_count in
      let g = rows-1 t.Else-row1-row_count in
      sym (graphs-good c.args.sort (source t.Start) (target t.Start) _ _ f g (bits-0 t.Else-bit0-source) (bits-1 t.Else-bit1-target)
      (sorted t.In_ok-sort) (omega arith) (omega arith));
}
