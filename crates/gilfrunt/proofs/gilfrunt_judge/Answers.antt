-- The call's contract is this one's at its switch. Assumes nothing.
use mathlib.Core.Path.{◌≡◌}
use Rattle.loaded.specs.Held.{held}
use Rattle.soundness.specs.Sound.{Sound}
use Rattle.gilfrunt.proofs.gilfrunt_judge.Goals as goal

pub returns : goal.returns
returns c =
    -- demand 3 by this verdict's truth
    let demand : c.judge.result.number ≡ 0 → Sound (held c.args.book.now) = c.judge.ensures.sound in
    record { outcome = c.judge.ensures.outcome; sound = demand; choices = c.judge.ensures.choices }
