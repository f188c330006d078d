-- A number for each graph. Assumes nothing.
use Rattle.refusals.proofs.ill_formed.Goals as goal

pub returns-in-Source : goal.returns-in-Source
returns-in-Source c = record { answer = rw c.in-Source.is }

pub returns-in-Target : goal.returns-in-Target
returns-in-Target c = record { answer = rw c.in-Target.is }
