-- The front of each list, cleared, is what the stages ask for; the rest stays zero. Assumes nothing.
use mathlib.Core.Path.{sym}
use lib.ListN.{length-replicate}
use lib.Seq.{length-take-le}
use Rattle.lowered.proofs.Zeros.{zeros-front, zeros-back}
use Rattle.lowered.proofs.lowered.Goals as goal

pub slice_bounds-matches-end-2 : goal.slice_bounds-matches-end-2
slice_bounds-matches-end-2 c =
    sym (length-take-le _ _ (rw (c.clear.ensures.zeros, c.row_count-n.ensures.count, length-replicate) c.requires.target_in_bounds))

pub slice_bounds-matches-end-4 : goal.slice_bounds-matches-end-4
slice_bounds-matches-end-4 c =
    sym (length-take-le _ _ (rw (c.clear-2.ensures.zeros, c.row_count-n.ensures.count, length-replicate) c.requires.target_in_bounds_2))

pub matches-requires : goal.matches-requires
matches-requires c =
    let p = c.requires in
    let n = c.row_count-n.ensures.count in
    record {
      formed = p.formed;
      ws_value = p.ws_value;
      cls_value = rw (c.clear.ensures.zeros, n) (zeros-front _ _ p.target_in_bounds);
      ent_value = rw (c.clear-2.ensures.zeros, n) (zeros-front _ _ p.target_in_bounds_2);
      good = p.good;
    }

pub returns : goal.returns
returns c =
    let p = c.requires in
    let n = c.row_count-n.ensures.count in
    let m = c.matches.ensures in
    record {
      answer = m.answer;
      class_list = λ h. rw (m.class_list h, c.clear.ensures.zeros, n, zeros-back _ _ p.target_in_bounds);
      entry_list = λ h. rw (m.entry_list h, c.clear-2.ensures.zeros, n, zeros-back _ _ p.target_in_bounds_2);
    }
