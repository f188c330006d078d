-- Marks leave a list its length. Assumes nothing.
use Prim.Native.Nat.{ℕ, zero, suc}
use mathlib.Core.Path.{◌≡◌, refl, ◌∙◌}
use mathlib.Core.List.{List}
use lib.ListN.{length, length-set}
use Rattle.lists.specs.Trace.{trace, marks}

pub marks-length : (place number : ℕ → ℕ) (l : List ℕ) (n : ℕ) → length (marks place number l n) ≡ length l
unfolding trace
marks-length place number l zero = refl
marks-length place number l (suc n) = length-set (marks place number l n) (place n) (number n) ∙ marks-length place number l n
