-- Only acceptance prints `accepted`. Assumes nothing.
use Prim.Native.Nat.{ℕ}
use mathlib.Core.Path.{◌≡◌, refl, ap}
use mathlib.Core.Bool.{Bool, true, false, cond}
use mathlib.Core.List.{List, ◌++◌}
use native.Mathlib.Omega.{arith}
use lib.Dec.{eqb}
use lib.ListN.{get_or}
use Rattle.answers.specs.declared.Words.{Words}
use Rattle.line.specs.Line.{accepted, refused, newline, line_of}

-- the first byte tells
first_byte : (t : Bool) (rest : List ℕ) → cond t (accepted ++ newline) (refused ++ rest) ≡ accepted ++ newline → t ≡ true
first_byte true rest e = refl
first_byte false rest e =
    let z : ◌≡◌ {A = ℕ} 114 97 = ap (λ (l : List ℕ). get_or l 0 0) e in
    let f : ⊥ = omega arith in
    absurd f

pub accepted-alone : (w : Words) → line_of w ≡ accepted ++ newline → eqb w.number 0 ≡ true
accepted-alone w e = first_byte (eqb w.number 0) _ e
