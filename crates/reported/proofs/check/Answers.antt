-- Check's outcome in words; its acceptance is sound, since the target is a slice. Assumes nothing.
use mathlib.Core.Path.{◌≡◌, ap}
use Rattle.lowering.specs.Asked.{lowering_of}
use Rattle.answers.specs.Result.{Result, told_of}
use Rattle.lowering.specs.Lowering.{Lowering}
use Rattle.lowering.specs.Check.{check_by}
use Rattle.reported.proofs.Sound.{check-means}
use Rattle.reported.proofs.check.Goals as goal

pub returns : goal.returns
returns c =
    let k = c.args in
    let w = c.from.ensures in
    let o = c.check-a.ensures.outcome in
    -- the lowering that the lists are
    let input : Lowering = lowering_of k.asked.now in
    let slice = c.check-a.ensures.slice in
    -- the answer is this check's, on this edition
    let answer-is : c.check-a.result ≡ (check_by k.strict input k.ws0.now k.ws1.now k.classes.now k.entries.now).answer =
    ap (λ (r : Result). r.answer) o in
    let m = check-means k.strict _ _ w k.ws0.now k.ws1.now k.classes.now k.entries.now _ _ _ _ input slice o in
    record { outcome = rw w (ap told_of o); sound = m.0; choices = m.1 }
