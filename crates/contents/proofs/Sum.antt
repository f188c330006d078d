-- A sum in words. Assumes nothing.
use Rattle.std.proofs.Common.{◌≡◌, ℕ, ◌+◌, ◌%◌, ◌^◌, ◌<◌, ◌≤◌, arith}

-- it wraps where it comes out below its first part
module _ (start len end : ℕ) (e : end ≡ (start + len) % 2 ^ 64) (s : start < 2 ^ 64) (l : len < 2 ^ 64) where
  pub wraps-past : (n : ℕ) → n < 2 ^ 64 → end < start → n < start + len
  wraps-past n m h = omega arith

  pub sum-whole : start ≤ end → end ≡ start + len
  sum-whole h = omega arith
