-- Both tables in order; a law for each refusal. A table that passes has marked each of its entries. Assumes nothing.
use Prim.Native.Nat.{◌≤◌}
use mathlib.Core.Path.{sym, ap, ◌∙◌}
use Rattle.sorts.specs.Sorts.{edition_given, sorts_of}
use Rattle.answers.specs.Answer.{ReadTable, CallTable}
use Rattle.lists.proofs.Choice.{no_way}
use Rattle.lowering.specs.Asked.{lowering_of}
use Rattle.lowering.specs.Tables.{read_count, bad_read}
use Rattle.lowering.specs.Lowering.{entries_of}
use Rattle.stages.proofs.TableLaws.{all-reads, all-calls, read-5, call-6, tables-good}
use Rattle.stages.proofs.entries.Goals as goal

pub returns-then-r-read_count : goal.returns-then-r-read_count
returns-then-r-read_count c =
    let s = c.args in
    let σ = sorts_of (edition_given s.asked.now.sorts) in
    let r = c.read_entries-r.ensures in record {
      answer =
          ap ReadTable r.entry ∙ sym (read-5 σ (entries_of (lowering_of s.asked.now)) s.asked.now.target.rows.now s.ws.now s.cls.now
          (rw (r.entry, c.read_count.ensures.count) at c.if-r-read_count.true));
      classes = λ h. no_way (sym h);
      offsets = λ h. no_way (sym h);
    }

pub returns-then-c-call_count : goal.returns-then-c-call_count
returns-then-c-call_count c =
    let s = c.args in
    let σ = sorts_of (edition_given s.asked.now.sorts) in
    let r = c.read_entries-r.ensures in
    let a : read_count s.asked.now.reads.now ≤ bad_read σ s.asked.now.reads.now s.asked.now.target.rows.now s.ws.now s.cls.now =
    rw (r.entry, c.read_count.ensures.count) at c.if-r-read_count.false in
    let all = all-reads σ s.asked.now.reads.now s.asked.now.target.rows.now s.ws.now s.cls.now a in
    let marked = rw (r.entry, all) at r.classes in
    let bad = rw marked at c.call_entries-c.ensures.entry in record {
      answer =
          ap CallTable bad ∙ sym (call-6 σ (entries_of (lowering_of s.asked.now)) s.asked.now.target.rows.now s.ws.now s.cls.now a
          (rw (bad, c.call_count.ensures.count) at c.if-c-call_count.true));
      classes = λ h. no_way (sym h);
      offsets = λ h. no_way (sym h);
    }

pub returns : goal.returns
returns c =
    let s = c.args in
    let σ = sorts_of (edition_given s.asked.now.sorts) in
    let r = c.read_entries-r.ensures in
    let a : read_count s.asked.now.reads.now ≤ bad_read σ s.asked.now.reads.now s.asked.now.target.rows.now s.ws.now s.cls.now =
    rw (r.entry, c.read_count.ensures.count) at c.if-r-read_count.false in
    let all = all-reads σ s.asked.now.reads.now s.asked.now.target.rows.now s.ws.now s.cls.now a in
    let marked = rw (r.entry, all) at r.classes in
    let offs = rw (r.entry, all) at r.offsets in
    let k = c.call_entries-c.ensures in
    let bad = rw marked at k.entry in
    let b = rw (bad, c.call_count.ensures.count) at c.if-c-call_count.false in
    let every = bad ∙ all-calls s.asked.now.calls.now s.asked.now.cargs.now s.asked.now.target.rows.now s.ws.now _ b in record {
      answer = sym (tables-good σ (entries_of (lowering_of s.asked.now)) s.asked.now.target.rows.now s.ws.now s.cls.now a b);
      classes = λ h. k.classes ∙ rw (marked, every);
      offsets = λ h. k.offsets ∙ rw (offs, every);
    }
