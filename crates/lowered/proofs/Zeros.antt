-- A front part and the rest of a list of zeros. Assumes nothing.
use Prim.Native.Nat.{ℕ, zero, suc, ◌+◌, ◌-◌, ◌≤◌}
use mathlib.Core.Path.{◌≡◌, ap, ◌∙◌}
use mathlib.Core.List.{List, ◌∷◌, ◌++◌}
use native.Mathlib.Omega.{arith}
use lib.ListN.{replicate, take, drop, length-replicate}
use lib.Seq.{take_at, drop_at}

parts : (n k : ℕ) → replicate {A = ℕ} (n + k) 0 ≡ replicate n 0 ++ replicate k 0
parts zero k = let e : 0 + k ≡ k = omega arith in rw e
parts (suc n) k = let e : suc n + k ≡ suc (n + k) = omega arith in rw e (ap (λ (l : List ℕ). 0 ∷ l) (parts n k))

split : (n m : ℕ) → n ≤ m → replicate {A = ℕ} m 0 ≡ replicate n 0 ++ replicate (m - n) 0
split n m h = let e : m ≡ n + (m - n) = omega arith in ap (λ (z : ℕ). replicate {A = ℕ} z 0) e ∙ parts n (m - n)

pub zeros-front : (n m : ℕ) → n ≤ m → take {A = ℕ} n (replicate m 0) ≡ replicate n 0
zeros-front n m h = rw (split n m h) (take_at (replicate n 0) (replicate (m - n) 0) n (length-replicate {A = ℕ} n 0))

pub zeros-back : (n m : ℕ) → n ≤ m → drop {A = ℕ} n (replicate m 0) ≡ replicate (m - n) 0
zeros-back n m h = rw (split n m h) (drop_at (replicate n 0) (replicate (m - n) 0) n (length-replicate {A = ℕ} n 0))
