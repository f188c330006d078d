-- One more digit, a word at its place, one more word. Assumes nothing.
use Rattle.std.proofs.Common.{◌≡◌, ℕ, zero, suc, ◌+◌, ◌-◌, ◌*◌, ◌%◌, ◌^◌, ◌<◌, ◌≤◌, true, false, List, [], ◌∷◌, ◌++◌, length, get_or, take, drop, set}
use Rattle.std.proofs.Common.{nat_lt, ap, sym, refl, ◌∙◌, add-one, add-zero, arith, take-suc-set, le-ltb, lt-ltb, ltb-false, Bool, cond, None, Some}
use Rattle.std.proofs.Common.{Option, drop_of_length-le, drop-cons}
use native.Mathlib.Nat.{mod-add-mod}
use Rattle.std.proofs.Math.Seq.{length-take-le}
use Rattle.std.proofs.lemmas.List.{get_or-take, get_or-drop}
use Rattle.std.proofs.lemmas.List.Sums.{prefix_len-le-length}
use Rattle.std.specs.List.{position}
use Rattle.std.specs.Option.{is_none, unwrap_or}
use Rattle.text.specs.declared.Token.{Token}
use Rattle.text.specs.Line.{digit_of, digits, number, good_digits, word_ends, token, words_from}

pub digits_within : (l : List ℕ) → digits l ≤ length l
digits_within l = prefix_len-le-length _ l

-- the first byte that is none, or the end
pub digits_found : (l : List ℕ) → unwrap_or (position (λ b. is_none (digit_of b)) l) (length l) ≡ digits l
digits_found l = go (nat_lt (digits l) (length l)) refl
  where
    go : (t : Bool) → nat_lt (digits l) (length l) ≡ t → unwrap_or (cond t (Some (digits l)) None) (length l) ≡ digits l
    go true e = refl
    go false e = omega (arith, ltb-false _ _ e, digits_within l)

-- a byte that is a digit is not none
some-digit : (d : Option ℕ) → (d ≡ None → ⊥) → is_none d ≡ false
some-digit None e = absurd (e refl)
some-digit (Some x) e = refl

-- Digits from a place on: none left, no digit, one more.
module _ (l : List ℕ) (at : ℕ) where
  pub digits-past : length l ≤ at → at + digits (drop at l) ≡ at
  digits-past h = rw (drop_of_length-le l h) (omega arith)

  pub digits-stop : at < length l → digit_of (get_or l at 0) ≡ None → at + digits (drop at l) ≡ at
  digits-stop h e = rw (drop-cons l at 0 h, e) (omega arith)

  pub digits_more : at < length l → (digit_of (get_or l at 0) ≡ None → ⊥) → at + digits (drop at l) ≡ at + 1 + digits (drop (at + 1) l)
  digits_more h e = rw (drop-cons l at 0 h, some-digit (digit_of (get_or l at 0)) e, add-one) (omega arith)

-- Their value.
pub number-done : (v : ℕ) (l : List ℕ) (at end : ℕ) → end ≤ at → number v (take (end - at) (drop at l)) ≡ v
number-done v l at end h = let e : end - at ≡ 0 = omega arith in rw e

pub number_more : (v u d : ℕ) (l : List ℕ) (at end : ℕ) → at < end → end ≤ length l → d ≡ unwrap_or (digit_of (get_or l at 0)) 0
    → u ≡ (v * 2 ^ 4 % 2 ^ 64 + d) % 2 ^ 64
    → number v (take (end - at) (drop at l)) ≡ number u (take (end - (at + 1)) (drop (at + 1) l))
number_more v u d l at end h k p q =
    let e : end - at ≡ suc (end - (at + 1)) = omega arith in
    let i : at < length l = omega arith in
    let s : u ≡ (v * 16 + unwrap_or (digit_of (get_or l at 0)) 0) % 2 ^ 64 =
    q ∙ mod-add-mod (v * 16) (2 ^ 64) d ∙ ap (λ (x : ℕ). (v * 16 + x) % 2 ^ 64) p in
    rw (e, drop-cons l at 0 i, s, add-one)

-- The word at a place, by the stretch of n digits there.
module _ (line : List ℕ) (at n : ℕ) (rest : List ℕ) (r : rest ≡ drop at line) (p : n ≡ digits rest) where
  good-at : good_digits (length (take n rest)) (get_or (take n rest) 0 0) ≡ good_digits (digits (drop at line)) (get_or line at 0)
  unfolding good_digits
  good-at = rw (sym r, sym p) (go n refl)
    where
      go : (k : ℕ) → n ≡ k → good_digits (length (take n rest)) (get_or (take n rest) 0 0) ≡ good_digits n (get_or line at 0)
      go zero e = rw e
      go (suc k) e =
          let h : n ≤ length rest = omega (arith, digits_within rest) in
          let z : 0 < n = omega arith in
          rw (length-take-le n rest h, get_or-take n rest 0 0 z, r, get_or-drop at line 0 0, add-zero)

  count : digits (drop at line) ≡ n
  count = sym (p ∙ ap digits r)

  module _ (g : Bool) (e : g ≡ good_digits (length (take n rest)) (get_or (take n rest) 0 0)) where
    pub token-bad : g ≡ false → None ≡ token line at
    unfolding token
    token-bad f = rw (sym good-at, sym e, f)

    module _ (f : g ≡ true) where
      pub token-open : false ≡ word_ends line (at + n) → None ≡ token line at
      unfolding token
      token-open w = rw (sym good-at, sym e, f, count, sym w)

      pub token-good : true ≡ word_ends line (at + n) → (v : ℕ) → v ≡ number 0 (take n rest)
          → Some (record { value = v; next = at + n + 1 }) ≡ token line at
      unfolding token
      token-good w v m = rw (sym good-at, sym e, f, count, sym w, m, r)

-- The words from a place on.
module _ (line : List ℕ) (at n room : ℕ) (out : List ℕ) (h : n < room) where
  left : room - n ≡ suc (room - (n + 1))
  left = omega arith

  pub words-none : None ≡ token line at → [] ≡ words_from (room - n) line at (take n out)
  unfolding words_from
  words-none z = rw (left, sym z)

  module _ (t : Token) (p : Some t ≡ token line at) (s : length out ≡ room) where
    stored : take (n + 1) (set out n t.value) ≡ take n out ++ (t.value ∷ [])
    stored = let k : n < length out = omega arith in rw (add-one, take-suc-set out n t.value k)

    pub words_last : length line < t.next → take (n + 1) (set out n t.value) ≡ words_from (room - n) line at (take n out)
    unfolding words_from
    words_last k = rw (left, sym p, lt-ltb _ _ k) stored

    pub words_more : t.next ≤ length line
        → words_from (room - n) line at (take n out) ≡ words_from (room - (n + 1)) line t.next (take (n + 1) (set out n t.value))
    unfolding words_from
    words_more k = rw (left, sym p, le-ltb _ _ k, stored)

pub words-full : (line : List ℕ) (at n room : ℕ) (front : List ℕ) → room ≤ n → [] ≡ words_from (room - n) line at front
unfolding words_from
words-full line at n room front h = let e : room - n ≡ 0 = omega arith in rw e
