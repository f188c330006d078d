-- A list whose end is filled with one value. Assumes nothing.
use Prim.Native.Nat.{ℕ, ◌-◌, ◌≤◌}
use mathlib.Core.Path.{◌≡◌}
use mathlib.Core.List.{List, ◌++◌, append-nil}
use native.Mathlib.Omega.{arith}
use lib.ListN.{length, take, replicate}
use lib.Seq.{drop-length}
use borrow.Rule.Slice.PartMut.{put_mid, mid_of, Post-is, mid_len}

pub fill_end : (a v : ℕ) (xs ys : List ℕ) → a ≤ length xs → ys ≡ replicate (length (mid_of a (length xs - a) xs)) v
    → put_mid a (length xs - a) xs ys ≡ take a xs ++ replicate (length xs - a) v
fill_end a v xs ys h e =
    let n : length (mid_of a (length xs - a) xs) ≡ length xs - a = mid_len a (length xs) xs (omega arith) in
    rw (e, n, Post-is a (length xs) xs h, drop-length, append-nil)
