-- The words that were read are the line's. Assumes nothing.
use Prim.Native.Nat.{ℕ}
use mathlib.Core.Path.{subst}
use mathlib.Core.List.{List}
use Rattle.agreement.specs.Agrees.{Agrees}
use Rattle.replay.proofs.line_agrees.Goals as goal

pub returns : goal.returns
returns c = record { agreed = λ e. subst (λ (l : List ℕ). Agrees l) c.read_line-n.ensures.words (c.agrees.ensures.agreed e) }
