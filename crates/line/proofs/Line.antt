-- Decimal digits one at a time from the last, the library's digits, and texts put one after the other. Assumes nothing.
use Prim.Native.Nat.{ℕ, zero, suc, ◌+◌, ◌-◌, ◌/◌, ◌%◌, ◌^◌, ◌<◌}
use mathlib.Core.Path.{◌≡◌, sym, ap, ◌∙◌}
use mathlib.Core.List.{List, [], ◌∷◌, ◌++◌, append_assoc}
use native.Mathlib.Numerals.{add-one}
use native.Mathlib.Omega.{arith}
use borrow.Author.Tests.{ne_eqb, lt-ltb, le-ltb}
use lib.ListN.{length, get_or, set, take, drop}
use lib.Seq.{lt-length-set, take-suc, drop-cons, get_or-set_same, drop-set-lt, take-suc-set}
use Rattle.std.specs.Fmt.{decimal as printed}
use Rattle.std.proofs.lemmas.Fmt.{AppendsLastDigit, decimal_from_appends, length-decimal-le}
use Rattle.answers.specs.declared.Words.{Words}
use Rattle.line.specs.Line.{decimal_in, decimal, refused, space, newline, line_of}

pub decimal-last : (k n : ℕ) → n < 10 → decimal_in (suc k) n ≡ (48 + n) ∷ []
unfolding decimal_in
decimal-last k n h = rw (lt-ltb n 10 h)

pub decimal-more : (k n : ℕ) → 9 < n → decimal_in (suc k) n ≡ decimal_in k (n / 10) ++ ((48 + n % 10) ∷ [])
unfolding decimal_in
decimal-more k n h = rw (le-ltb n 10 (omega arith))

-- the library's decimal digits are the definition's
appends : AppendsLastDigit decimal_in
appends = record { one = decimal-last; more = λ k n h. decimal-more k n h }

pub decimal-printed : (n : ℕ) → n < 2 ^ 64 → decimal n ≡ printed n
decimal-printed n h = decimal_from_appends decimal_in appends 20 n h (length-decimal-le 20 n (omega arith) (omega arith) h)

-- a number of two digits wants two places
pub two-places : (k n : ℕ) → 9 < n → n < 10 ^ suc k → 0 < k
two-places zero n h l = omega arith
two-places (suc k) n h l = omega arith

-- what stands from a store on
pub drop-stored : (l : List ℕ) (i v : ℕ) → i < length l → drop i (set l i v) ≡ v ∷ drop (suc i) l
drop-stored l i v h = drop-cons (set l i v) i 0 (lt-length-set l i v h) ∙ rw (get_or-set_same l i v 0 h, drop-set-lt (suc i) l i v (omega arith))

-- one byte more of a text behind what stood before it
pub put-more : (out out₀ text : List ℕ) (at i : ℕ) → at + i < length out → i < length text → take (at + i) out ≡ take at out₀ ++ take i text
    → take (at + (i + 1)) (set out (at + i) (get_or text i 0)) ≡ take at out₀ ++ take (i + 1) text
put-more out out₀ text at i h k e =
    let s : at + (i + 1) ≡ suc (at + i) = omega arith in
    rw s (take-suc-set out (at + i) (get_or text i 0) h ∙ rw (e, append_assoc, add-one, take-suc text i 0))

-- the digits of a number, of which those of its front are still to come
module _ (l : List ℕ) (i rest : ℕ) (all : List ℕ) (h : i < length l) (e : decimal_in (suc i) rest ++ drop (suc i) l ≡ all) where
  pub spell-more : 9 < rest → 0 < i → decimal_in (suc (i - 1)) (rest / 10) ++ drop (suc (i - 1)) (set l i (48 + rest % 10)) ≡ all
  spell-more t z =
      let s : suc (i - 1) ≡ i = omega arith in
      rw (s, drop-stored l i (48 + rest % 10) h)
      (sym (append_assoc (decimal_in i (rest / 10)) ((48 + rest % 10) ∷ []) (drop (suc i) l))
      ∙ sym (ap (λ (d : List ℕ). d ++ drop (suc i) l) (decimal-more i rest t)) ∙ e)

  pub spell-done : rest < 10 → drop i (set l i (48 + rest)) ≡ all
  spell-done t = drop-stored l i (48 + rest) h ∙ sym (ap (λ (d : List ℕ). d ++ drop (suc i) l) (decimal-last i rest t)) ∙ e

-- a byte behind a number
pub number_put : (out out₀ text digits : List ℕ) (end at v : ℕ) → end < length out → take end out ≡ take at out₀ ++ text → text ≡ digits
    → take (end + 1) (set out end v) ≡ take at out₀ ++ (digits ++ (v ∷ []))
number_put out out₀ text digits end at v h e d = rw (add-one end) (take-suc-set out end v h ∙ rw (e, d, append_assoc))

-- the parts of a refusal's line, each front put behind the one before it
parts : (w : Words) (f0 f1 f2 f3 : List ℕ) → (w.number ≡ 0 → ⊥) → f0 ≡ refused ++ space → f1 ≡ f0 ++ (decimal w.number ++ space)
    → f2 ≡ f1 ++ (decimal w.place ++ space) → f3 ≡ f2 ++ (decimal w.detail ++ newline) → f3 ≡ line_of w
parts w f0 f1 f2 f3 n e0 e1 e2 e3 = rw (ne_eqb _ _ n) (e3 ∙ rw (e2, e1, e0) (simp append_assoc))

-- with the numbers that were put as place and detail
pub refused-line : (w : Words) (place detail : ℕ) (f0 f1 f2 f3 : List ℕ) → (w.number ≡ 0 → ⊥) → f0 ≡ refused ++ space
    → f1 ≡ f0 ++ (decimal w.number ++ space)
    → f2 ≡ f1 ++ (decimal place ++ space) → f3 ≡ f2 ++ (decimal detail ++ newline) → place ≡ w.place → detail ≡ w.detail → f3 ≡ line_of w
refused-line w place detail f0 f1 f2 f3 n e0 e1 e2 e3 p d =
    parts w f0 f1 f2 f3 n e0 e1 (e2 ∙ ap (λ (k : ℕ). f1 ++ (decimal k ++ space)) p) (e3 ∙ ap (λ (k : ℕ). f2 ++ (decimal k ++ newline)) d)
