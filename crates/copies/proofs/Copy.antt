-- A list that is copied to the start of another, element by element. Assumes nothing.
use Prim.Native.Nat.{ℕ, ◌+◌, ◌<◌, ◌≤◌}
use mathlib.Core.Path.{◌≡◌, ◌∙◌, sym}
use mathlib.Core.List.{List}
use native.Mathlib.Numerals.{add-one}
use native.Mathlib.Omega.{arith}
use lib.ListN.{length, get_or, set, take}
use lib.Seq.{take-suc, take-suc-set, take-length}

-- One more element.
pub copy_more : (list out : List ℕ) (i : ℕ) → i < length list → i < length out → take i out ≡ take i list
    → take (i + 1) (set out i (get_or list i 0)) ≡ take (i + 1) list
copy_more list out i h k e = rw add-one (take-suc-set out i (get_or list i 0) k ∙ rw e (sym (take-suc list i 0 h)))

-- All elements.
pub copy_done : (list out : List ℕ) (i : ℕ) → i ≤ length list → length list ≤ i → take i out ≡ take i list → take i out ≡ list
copy_done list out i h k e =
    let n : length list ≡ i = omega arith in
    let all : take i list ≡ list = rw (← n) (take-length list) in
    e ∙ all
