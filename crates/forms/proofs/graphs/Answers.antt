-- The row where a pass stops gives the same answer as the ill-formed row; a table that is refused, and a stop in the source, settle the answer.
-- Assumes nothing.
use Prim.Native.Nat.{ℕ, ◌<◌}
use mathlib.Core.Path.{◌≡◌, sym, ap, ◌∙◌}
use mathlib.Core.Bool.{not, true, false}
use mathlib.Core.List.{[]}
use native.Mathlib.Omega.{arith}
use lib.ListN.{length}
use Rattle.answers.specs.Answer.{Answer}
use Rattle.answers.specs.Answer.{is_accepted}
use Rattle.lists.proofs.Choice.{no_way}
use Rattle.sorts.specs.Sorts.{Edition, edition_given, plain, sorts_of, sort_answer}
use Rattle.rows.specs.declared.Graph.TheVariants.{Source, Target}
use Rattle.rows.specs.Row.{row_count}
use Rattle.wf.proofs.Stop.{stop-good}
use Rattle.wf.specs.Pass.{stop_row}
use Rattle.lowering.specs.Asked.{lowering_of}
use Rattle.lowering.specs.Lowering.{SourceGraph, TargetGraph}
use Rattle.lowering.specs.Check.{first_refusal, graph_answers, source_ill, target_ill}
use Rattle.forms.proofs.Form.{stop_le, graphs-stop, source-settles, sort-settles, table-good, no-stop-source, no-stop-target, widths-all}
use Rattle.forms.proofs.graphs.Goals as goal
use Rattle.forms.proofs.graphs.Goals.{Start, After-sort_answer-sort, Then-is_err, Else-is_err}

-- the edition and the graphs where the function was entered
abbrev of : Start → Edition
of c = edition_given c.args.asked.now.sorts

abbrev source : Start → SourceGraph
source c = (lowering_of c.args.asked.now).source

abbrev target : Start → TargetGraph
target c = (lowering_of c.args.asked.now).target

pub graph_answer-requires : goal.graph_answer-requires
graph_answer-requires c = record {
  stop0_bound = omega arith;
  by_index = λ j h. absurd (omega arith);
  stop1_bound = omega arith;
  by_index_2 = λ j h. absurd (omega arith);
}

-- the table is refused, and nothing is accepted; the table is good
no : (c : Then-is_err) → is_accepted (sort_answer (edition_given c.args.asked.now.sorts)) ≡ false
no c = (rw c.sort_answer-sort.ensures.answer at c.is_err.ensures.negation) ∙ ap not c.if-is_err.true

yes : (c : Else-is_err) → is_accepted (sort_answer (edition_given c.args.asked.now.sorts)) ≡ true
yes c = (rw c.sort_answer-sort.ensures.answer at c.is_err.ensures.negation) ∙ ap not c.if-is_err.false

unsorted : {P : Type 0} (sort : Answer) (S : SourceGraph) (T : TargetGraph) (x y : ℕ) → is_accepted sort ≡ false
    → is_accepted (first_refusal (graph_answers sort S T x y)) ≡ true → P
unsorted sort S T x y n accepts = no_way (sym (table-good sort S T x y accepts) ∙ n)

-- what graph_answer told, with the table's answer
told : (c : After-sort_answer-sort) (S : SourceGraph) (T : TargetGraph) (r : Answer) (x y : ℕ)
    → r ≡ first_refusal (graph_answers c.sort_answer-sort.result S T x y)
    → r ≡ first_refusal (graph_answers (sort_answer (edition_given c.args.asked.now.sorts)) S T x y)
told c S T r x y e = e ∙ ap (λ (a : Answer). first_refusal (graph_answers a S T x y)) c.sort_answer-sort.ensures.answer

pub returns-then-is_err : goal.returns-then-is_err
returns-then-is_err c =
    let t = goal.at.returns-then-is_err c in
    let E = of t.Start in
    let S = source t.Start in
    let T = target t.Start in
    let n = no t.Then-is_err in
    let a = told t.After-sort_answer-sort S T _ 0 0 c.graph_answer.ensures.answer in
    record {
      answer = a ∙ sort-settles (sort_answer E) S T 0 0 (source_ill (sorts_of E) S) (target_ill T) n;
      source_list = λ h. unsorted (sort_answer E) S T 0 0 n (rw a at h);
      target_list = λ h. unsorted (sort_answer E) S T 0 0 n (rw a at h);
    }

pub graph_wf-stop0-requires : goal.graph_wf-stop0-requires
graph_wf-stop0-requires c = record {
  good = yes (goal.at.graph_wf-stop0-requires c).Else-is_err;
  g_in_bounds = c.requires.source_in_bounds;
}

pub graph_answer-requires-then-stop0-row_count : goal.graph_answer-requires-then-stop0-row_count
graph_answer-requires-then-stop0-row_count c =
    let s = c.args in
    let x = c.graph_wf-stop0.ensures.row in
    let σ = sorts_of (of (goal.at.graph_answer-requires-then-stop0-row_count c).Start) in
    let e = length s.asked.now.source.bits.now in
    record {
      stop0_bound = rw x (stop_le σ Source e s.asked.now.source.side.now s.asked.now.source.rows.now);
      by_index = λ j h. stop-good σ Source e s.asked.now.source.side.now s.asked.now.source.rows.now j (rw x at h);
      stop1_bound = omega arith;
      by_index_2 = λ j h. absurd (omega arith);
    }

-- where a source row stops the pass, nothing is accepted
stopped : {P : Type 0} (sort : Answer) (S : SourceGraph) (T : TargetGraph) (x y : ℕ) → x < row_count Source S.rows
    → is_accepted (first_refusal (graph_answers sort S T x y)) ≡ true → P
stopped sort S T x y h accepts = let n = no-stop-source sort S T x y accepts in absurd (omega arith)

pub returns-then-stop0-row_count : goal.returns-then-stop0-row_count
returns-then-stop0-row_count c =
    let t = goal.at.returns-then-stop0-row_count c in
    let E = of t.Start in
    let S = source t.Start in
    let T = target t.Start in
    let sort = sort_answer E in
    let x = c.graph_wf-stop0.ensures in
    let n = rw (x.row, c.row_count.ensures.count) at c.if-stop0-row_count.true in
    let a = rw x.row at (told t.After-sort_answer-sort S T _ _ 0 c.graph_answer-then-stop0-row_count.ensures.answer) in
    record {
      answer = a ∙ source-settles sort S T _ 0 (stop_row plain Target (length T.bits) [] T.rows) n ∙ graphs-stop E S T;
      source_list = λ h. stopped sort S T _ 0 n (rw a at h);
      target_list = λ h. stopped sort S T _ 0 n (rw a at h);
    }

pub graph_answer-requires-2 : goal.graph_answer-requires-2
graph_answer-requires-2 c =
    let s = c.args in
    let x = c.graph_wf-stop0.ensures.row in
    let y = c.graph_wf-stop1.ensures.row in
    let σ = sorts_of (of (goal.at.graph_answer-requires-2 c).Start) in
    let e = length s.asked.now.source.bits.now in
    let t = length s.asked.now.target.bits.now in
    record {
      stop0_bound = rw x (stop_le σ Source e s.asked.now.source.side.now s.asked.now.source.rows.now);
      by_index = λ j h. stop-good σ Source e s.asked.now.source.side.now s.asked.now.source.rows.now j (rw x at h);
      stop1_bound = rw y (stop_le plain Target t [] s.asked.now.target.rows.now);
      by_index_2 = λ j h. stop-good plain Target t [] s.asked.now.target.rows.now j (rw y at h);
    }

pub returns : goal.returns
returns c =
    let t = goal.at.returns c in
    let E = of t.Start in
    let S = source t.Start in
    let T = target t.Start in
    let sort = sort_answer E in
    let x = c.graph_wf-stop0.ensures in
    let y = c.graph_wf-stop1.ensures in
    let a = rw (x.row, y.row) at (told t.After-sort_answer-sort S T _ _ _ c.graph_answer-2.ensures.answer) in
    record {
      answer = a ∙ graphs-stop E S T;
      source_list =
          λ h. x.list ∙ rw x.row (widths-all (sorts_of E) Source (length S.bits) S.side S.rows _ (no-stop-source sort S T _ _ (rw a at h)));
      target_list = λ h. y.list ∙ rw y.row (widths-all plain Target (length T.bits) [] T.rows _ (no-stop-target sort S T _ _ (rw a at h)));
    }
