-- The goals that search leaves open. Assumes nothing.
use Rattle.images.proofs.Agree.{stretches-agree}
use Rattle.images.proofs.bits_eq.Goals as goal

pub returns : goal.returns
returns c = record { test = stretches-agree _ _ _ _ _ c.requires.0 c.requires.1 _ c.eq.ensures }
