-- The stages in their order: each return is the law of its stage over what the calls before it answered and left. Assumes nothing.
use Prim.Native.Nat.{ℕ}
use mathlib.Core.Path.{◌≡◌, sym, ap, ◌∙◌}
use mathlib.Core.Bool.{true}
use lib.ListN.{length, length-replicate}
use mathlib.Core.List.{[]}
use Rattle.sorts.specs.Sorts.{plain}
use Rattle.images.proofs.Constants.{bits-within}
use Rattle.images.proofs.Equality.{eqs-even}
use Rattle.lists.proofs.Choice.{no_way}
use Rattle.rows.specs.declared.Graph.TheVariants.{Source, Target}
use Rattle.rows.specs.Row.{row_count}
use Rattle.std.proofs.lemmas.Result.{err_from_is_err_and}
use Rattle.answers.specs.Answer.{is_accepted}
use Rattle.lowering.specs.Asked.{lowering_of}
use Rattle.lowering.specs.Lowering.{Lowering}
use Rattle.lowered.proofs.MatchLaws.{map-3, tables-done, rows-done, dead-done, roots-done, passed-tables, reads-inside, calls-inside}
use Rattle.wf.specs.Widths.{widths}
use Rattle.lowered.proofs.matches.Goals as goal
use Rattle.lowered.proofs.matches.Goals.{Start, After-entries, In_ok-entries}

-- what the function was given
abbrev input : Start → Lowering
input c =
    let s = c.args in
    lowering_of s.asked.now

-- the map has a word for each row; the tables have passed
map-fits : (c : After-entries) → length c.args.asked.now.map.now ≡ row_count Source c.args.asked.now.source.rows.now
map-fits c = c.if-map-n.false ∙ c.row_count-n.ensures.count

tables-accepted : (c : In_ok-entries) → is_accepted c.entries.result ≡ true
tables-accepted c = ap is_accepted c.in_ok-entries.was

pub returns-then-map-n : goal.returns-then-map-n
returns-then-map-n c =
    let L = input (goal.at.returns-then-map-n c).Start in
    let n = c.row_count-n.ensures.count in
    record {
      answer = rw n (sym (map-3 L (λ q. c.if-map-n.true (q ∙ sym n))));
      class_list = λ h. no_way (sym h);
      entry_list = λ h. no_way (sym h);
    }

pub entries-requires : goal.entries-requires
entries-requires c = record {
  cls_len = ap length c.requires.cls_value ∙ length-replicate {A = ℕ} _ 0;
  ent_len = ap length c.requires.ent_value ∙ length-replicate {A = ℕ} _ 0;
  good = c.requires.good;
}

pub returns-in_err-entries : goal.returns-in_err-entries
returns-in_err-entries c =
    let t = goal.at.returns-in_err-entries c in
    let p = c.requires in
    let e = c.entries.ensures in
    let d =
    tables-done (input t.Start) _ _ _ p.ws_value p.cls_value p.ent_value _ _ _ e.answer e.classes e.offsets (map-fits t.After-entries)
    (ap is_accepted c.in_err-entries.was) in
    let q = err_from_is_err_and c.from_residual.result c.from_residual.ensures.1 in
    let refused = ap is_accepted q.1 in
    record {
      answer = rw (q.1, q.2) (sym c.in_err-entries.was ∙ d.0);
      class_list = λ h. no_way (sym h ∙ refused);
      entry_list = λ h. no_way (sym h ∙ refused);
    }

pub ext_rows-requires : goal.ext_rows-requires
ext_rows-requires c = record {
  formed = c.requires.formed;
  ent_len = (
    c.entries.auto.ent ∙ ap length c.requires.ent_value ∙ length-replicate {A = ℕ} _ 0,
    c.entries.auto.cls ∙ ap length c.requires.cls_value ∙ length-replicate {A = ℕ} _ 0,
  );
}

pub returns-in_err-ext_rows : goal.returns-in_err-ext_rows
returns-in_err-ext_rows c =
    let t = goal.at.returns-in_err-ext_rows c in
    let p = c.requires in
    let e = c.entries.ensures in
    let r = c.ext_rows.ensures in
    let d =
    rows-done (input t.Start) _ _ _ p.ws_value p.cls_value p.ent_value _ _ _ e.answer e.classes e.offsets (map-fits t.After-entries)
    (tables-accepted t.In_ok-entries) _ _ r.answer r.list (ap is_accepted c.in_err-ext_rows.was) in
    let q = err_from_is_err_and c.from_residual-in_err-ext_rows.result c.from_residual-in_err-ext_rows.ensures.1 in
    let refused = ap is_accepted q.1 in
    record {
      answer = rw (q.1, q.2) (sym c.in_err-ext_rows.was ∙ d.0);
      class_list = λ h. no_way (sym h ∙ refused);
      entry_list = λ h. no_way (sym h ∙ refused);
    }

pub returns-then-dead-cls : goal.returns-then-dead-cls
returns-then-dead-cls c =
    let t = goal.at.returns-then-dead-cls c in
    let p = c.requires in
    let e = c.entries.ensures in
    let r = c.ext_rows.ensures in
    let d =
    dead-done (input t.Start) _ _ _ p.ws_value p.cls_value p.ent_value _ _ _ e.answer e.classes e.offsets (map-fits t.After-entries)
    (tables-accepted t.In_ok-entries) _ _ r.answer r.list (ap is_accepted c.in_ok-ext_rows.was) _
    (c.ext_rows.auto.cls ∙ c.entries.auto.cls ∙ ap length p.cls_value ∙ length-replicate {A = ℕ} _ 0)
    c.dead_entry-dead.ensures.variable c.if-dead-cls.true in
    record { answer = d.0; class_list = d.1.0; entry_list = d.1.1 }

pub roots-requires : goal.roots-requires
roots-requires c =
    let t = goal.at.roots-requires c in
    let s = c.args in
    let p = c.requires in
    let e = c.entries.ensures in
    let L = input t.Start in
    let b =
    passed-tables L _ _ _ p.ws_value p.cls_value p.ent_value _ _ _ e.answer e.classes e.offsets (map-fits t.After-entries)
    (tables-accepted t.In_ok-entries) in
    let ws = widths plain Target (length s.asked.now.target.bits.now) [] s.asked.now.target.rows.now in
    record {
      reads_in = reads-inside L b;
      calls_in = calls-inside L b;
      eqs_even = rw p.ws_value (eqs-even (length s.asked.now.target.bits.now) s.asked.now.target.rows.now ws p.formed.target-formed);
      consts_within = bits-within Target s.asked.now.target.bits.now [] s.asked.now.target.rows.now ws p.formed.target-formed;
    }

pub returns : goal.returns
returns c =
    let t = goal.at.returns c in
    let p = c.requires in
    let e = c.entries.ensures in
    let r = c.ext_rows.ensures in
    let d =
    roots-done (input t.Start) _ _ _ p.ws_value p.cls_value p.ent_value _ _ _ e.answer e.classes e.offsets (map-fits t.After-entries)
    (tables-accepted t.In_ok-entries) _ _ r.answer r.list (ap is_accepted c.in_ok-ext_rows.was) _
    (c.ext_rows.auto.cls ∙ c.entries.auto.cls ∙ ap length p.cls_value ∙ length-replicate {A = ℕ} _ 0)
    c.dead_entry-dead.ensures.variable _ c.if-dead-cls.false c.roots.ensures.answer in
    record { answer = d.0; class_list = d.1.0; entry_list = d.1.1 }
