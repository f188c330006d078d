-- The graphs, then their roots by the widths that the passes left: each return is the law of its stage. Assumes nothing.
use mathlib.Core.Path.{◌≡◌, sym, ap, ◌∙◌}
use mathlib.Core.Bool.{true}
use mathlib.Core.List.{[]}
use lib.ListN.{length}
use Rattle.std.proofs.lemmas.Result.{err_from_is_err_and}
use Rattle.answers.specs.Answer.{is_accepted}
use Rattle.lists.proofs.Choice.{no_way}
use Rattle.sorts.specs.Sorts.{Edition, edition_given, plain, sorts_of}
use Rattle.rows.specs.declared.Graph.TheVariants.{Source, Target}
use Rattle.lowering.specs.Asked.{lowering_of}
use Rattle.lowering.specs.Lowering.{SourceGraph, TargetGraph}
use Rattle.forms.proofs.Form.{widths-front, graphs-refused, roots-asked}
use Rattle.forms.proofs.rooted_graphs.Goals as goal
use Rattle.forms.proofs.rooted_graphs.Goals.{Start}

-- the edition and the two graphs at the start
abbrev of : Start → Edition
of c = edition_given c.args.asked.now.sorts

abbrev source : Start → SourceGraph
source c = (lowering_of c.args.asked.now).source

abbrev target : Start → TargetGraph
target c = (lowering_of c.args.asked.now).target

pub returns-in_err-graphs : goal.returns-in_err-graphs
returns-in_err-graphs c =
    let start = (goal.at.returns-in_err-graphs c).Start in
    let s = c.args in
    let g = c.graphs.ensures in
    let q = err_from_is_err_and c.from_residual.result c.from_residual.ensures.1 in
    record {
      answer =
          rw (q.1, q.2)
          (sym c.in_err-graphs.was
          ∙ graphs-refused s.strict (of start) (source start) (target start) s.asked.now.eroots.now s.asked.now.troots.now _ g.answer
          (ap is_accepted c.in_err-graphs.was));
      source_list = λ h. no_way (sym h ∙ ap is_accepted (q.1));
      target_list = λ h. no_way (sym h ∙ ap is_accepted (q.1));
    }

pub returns : goal.returns
returns c =
    let start = (goal.at.returns c).Start in
    let s = c.args in
    let g = c.graphs.ensures in
    let ok : is_accepted c.graphs.result ≡ true = ap is_accepted c.in_ok-graphs.was in
    let ws0 =
    widths-front (sorts_of (of start)) Source
    (length s.asked.now.source.bits.now) _ s.asked.now.source.side.now s.asked.now.source.rows.now _ _ c.row_count-n.ensures.count
    (g.source_list ok) in
    let ws1 = widths-front plain Target (length s.asked.now.target.bits.now) _ [] s.asked.now.target.rows.now _ _ c.row_count-m.ensures.count
    (g.target_list ok) in
    record {
      answer =
          roots-asked s.strict (of start) (source start) (target start) s.asked.now.eroots.now s.asked.now.troots.now _ g.answer ok _ _ _
          c.root_answer.ensures.answer ws0 ws1;
      source_list = λ h. g.source_list ok;
      target_list = λ h. g.target_list ok;
    }
