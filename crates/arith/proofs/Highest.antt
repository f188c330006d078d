-- The highest one bit of a word, and the widths that hold the word. Assumes nothing.
use Rattle.std.proofs.Common.{◌≡◌, ℕ, suc, ◌+◌, ◌-◌, ◌*◌, ◌^◌, ◌<◌, ◌≤◌, ltb, leb, sym, ◌∙◌, pow-suc, arith, pow_mono, le-ltb, lt-ltb, le-leb}
use native.Mathlib.Decide.{dec_le}
use borrow.Author.Tests.{lt-leb}
use lib.Count.{count_leading_zeros, leading_length}

-- a number x of m digits fits width w exactly where m ≤ w
length-fits : (m x w : ℕ) → x < 2 ^ m → 2 ^ m ≤ 2 * x + 1 → Dec (m ≤ w) → leb m w ≡ ltb x (2 ^ w)
length-fits m x w below above (yes l) =
    let q : 2 ^ m ≤ 2 ^ w = pow_mono l in
    le-leb m w l ∙ sym (lt-ltb x (2 ^ w) (omega arith))
length-fits m x w below above (no l) =
    let q : 2 ^ suc w ≤ 2 ^ m = pow_mono (omega arith) in
    lt-leb m w (omega arith) ∙ sym (le-ltb x (2 ^ w) (omega (arith, pow-suc 2 w)))

-- for words of every size k
pub highest-below : (k x w : ℕ) → x < 2 ^ k → leb (k - count_leading_zeros k x) w ≡ ltb x (2 ^ w)
highest-below k x w h =
    let p = leading_length k x h in
    let e : k - count_leading_zeros k x ≡ p.0 = omega (arith, p.1) in
    rw e (length-fits p.0 x w p.2 p.3 (dec_le p.0 w))
