-- Only acceptance prints `accepted`, so what acceptance means the line means. Assumes nothing.
use Prim.Native.Nat.{ℕ}
use mathlib.Core.Path.{◌≡◌, sym, ◌∙◌}
use mathlib.Core.Bool.{true}
use mathlib.Core.List.{List, ◌++◌}
use Rattle.answers.specs.Answer.{Answer}
use Rattle.answers.specs.Answer.{words_of, is_accepted}
use Rattle.answers.proofs.Numbers.{accepted-number}
use Rattle.line.specs.Line.{accepted, newline, line_of}
use Rattle.line.proofs.Accepted.{accepted-alone}

pub line-means : (P : Type 0) (line : List ℕ) (r : Answer) → line ≡ line_of (words_of r) → (is_accepted r ≡ true → P) → line ≡ accepted ++ newline → P
line-means P line r e means p = means (accepted-number r ∙ accepted-alone (words_of r) (sym e ∙ p))
