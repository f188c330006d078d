-- From the words before the section's to the end of its own, as `part` says. Assumes nothing.
use Rattle.std.proofs.Common.{◌≤◌, length, rules, arith}
use Rattle.bodies.proofs.Words.{Part, part}
use Rattle.bodies.proofs.list_at.Goals as goal
use Rattle.bodies.proofs.list_at.Goals.{After-offset-end}

part-of : (c : After-offset-end) → Part c.args.book.bytes.now c.args.i c.args.words.now c.offset-from.result c.offset-end.result
part-of c = part c.args.book.bytes.now c.args.words.now c.args.i _ _ c.requires.i_bound c.requires.words_value c.offset-from.ensures.count
    c.offset-end.ensures.count

pub offset_bounds-words-from : goal.offset_bounds-words-from
offset_bounds-words-from c =
    let p = part-of (goal.at.offset_bounds-words-from c).After-offset-end in
    let h : c.offset-from.result ≤ length c.args.words.now = omega (arith, p.ordered, p.inside) in
    search rules

pub slice_bounds-result-count : goal.slice_bounds-result-count
slice_bounds-result-count c = (part-of (goal.at.slice_bounds-result-count c).After-offset-end).ordered

pub slice_bounds-result-start : goal.slice_bounds-result-start
slice_bounds-result-start c = (part-of (goal.at.slice_bounds-result-start c).After-offset-end).ordered

pub slice_bounds-result-end : goal.slice_bounds-result-end
slice_bounds-result-end c = (part-of (goal.at.slice_bounds-result-end c).After-offset-end).inside

pub returns : goal.returns
returns c = record { list = (part-of (goal.at.returns c).After-offset-end).part-is }
