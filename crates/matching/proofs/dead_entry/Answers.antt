-- The first place of such a class is the search `first`. Assumes nothing.
use Prim.Native.Nat.{ℕ, suc, ◌+◌, ◌≤◌}
use mathlib.Core.Path.{◌≡◌, refl, sym, ap, ◌∙◌}
use mathlib.Core.Bool.{Bool, true, false, cond}
use mathlib.Core.List.{List}
use native.Mathlib.Omega.{arith}
use borrow.Author.Tests.{tests, ltb-false}
use lib.Dec.{ltb}
use lib.ListN.{length, get_or}
use Rattle.std.proofs.Common.{rules}
use Rattle.std.specs.declared.option.Option.{Option}
use Rattle.std.specs.declared.option.Option.TheVariants.{Some, None}
use Rattle.std.specs.Option.{unwrap_or}
use Rattle.std.specs.List.{position_or_len}
use Rattle.std.proofs.lemmas.Iterator.{YieldsList-from_slice}
use Rattle.std.proofs.lemmas.Iterator.Search.{position_from_yields_List}
use Rattle.std.proofs.lemmas.List.Recursion.{is_position_or_len}
use Rattle.lists.specs.First.{first}
use Rattle.lists.proofs.First.{first-le}
use Rattle.rows.specs.Tags.{either}
use Rattle.lowering.specs.Matching.{dead_entry}
use Rattle.matching.proofs.dead_entry.Goals as goal

one-more : (n : ℕ) → 1 + n ≡ suc n
one-more n = omega arith

-- the first place in a list that passes a test
first-place : (test : ℕ → Bool) (xs : List ℕ) → first (λ j. test (get_or xs j 0)) (length xs) ≡ position_or_len test xs
unfolding first
first-place test =
    is_position_or_len (λ xs. first (λ j. test (get_or xs j 0)) (length xs)) test refl
    (λ x xs. ap (λ (n : ℕ). cond (test x) 0 n) (sym (one-more (first (λ j. test (get_or xs j 0)) (length xs)))))

place-or : (p n : ℕ) → p ≤ n → unwrap_or (cond (ltb p n) (Some p) None) n ≡ p
place-or p n h = go (ltb p n) refl
  where
    go : (b : Bool) → ltb p n ≡ b → unwrap_or (cond b (Some p) None) n ≡ p
    go true e = refl
    go false e = omega (arith, ltb-false p n e)

pub returns : goal.returns
returns c = record {
  variable =
      let classes = c.args.cls.now in
      let test = λ (x : ℕ). either x 2 3 in
      let place = first-place test classes in
      let at = position_from_yields_List test c.position-dead.new.self _ c.position-dead.result c.position-dead.ensures.ran
      (YieldsList-from_slice classes cc) (λ x b q k. search (rules, tests)) in
      let bound = first-le (λ j. test (get_or classes j 0)) (length classes) in
      let found : c.unwrap_or.result ≡ dead_entry classes (length classes) =
      c.unwrap_or.ensures ∙ ap (λ (o : Option ℕ). unwrap_or o (length classes)) at ∙ rw (sym place) (place-or _ _ bound) in
      omega (arith, found);
}
