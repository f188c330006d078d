-- Two stretches as lists. Assumes nothing.
use Rattle.images.proofs.Agree.{stretches-agree}
use Rattle.keys.proofs.args_eq.Goals as goal

pub returns : goal.returns
returns c = record { test = stretches-agree _ _ _ _ _ c.requires.0 c.requires.1 _ c.eq.ensures }
