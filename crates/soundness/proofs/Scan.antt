-- 2.5 on closed lowerings: a variable of class 0, an unmapped variable, roots that leave one value, no roots; and three that Check refuses, where
-- the choices are not the same. Assumes nothing.
use Prim.Native.Nat.{ℕ, zero, suc, ◌<◌, ◌^◌}
use mathlib.Core.Path.{◌≡◌, refl, sym, ap, ◌∙◌, subst}
use mathlib.Core.Bool.{Bool, true, false, cond}
use mathlib.Core.Logic.{◌↔◌}
use mathlib.Core.List.{List, [], ◌∷◌, map}
use native.Mathlib.Omega.{arith}
use borrow.Author.Tests.{eqb-true}
use lib.Dec.{eqb}
use lib.ListN.{get_or}
use lib.Pow.{pow_pos}
use Rattle.sorts.specs.Sorts.{plain}
use Rattle.answers.specs.Answer.{words_of}
use Rattle.answers.specs.Refusal.{words}
use Rattle.bv.specs.Bits.{of_bits, of_bool}
use Rattle.lists.specs.Build.{build}
use Rattle.lists.specs.First.{first}
use Rattle.lists.specs.Tests.{all, agree}
use Rattle.lists.specs.Trace.{trace}
use Rattle.lists.proofs.Choice.{no_way}
use Rattle.rows.specs.declared.Graph.TheVariants.{Source}
use Rattle.rows.specs.declared.Node.TheVariants.{Var}
use Rattle.rows.specs.Node.{node_of}
use Rattle.rows.specs.Row.{MAX, row_at}
use Rattle.value.specs.Val.{Val}
use Rattle.value.specs.Operate.{operate}
use Rattle.meaning.specs.Meaning.{Interpretation, OfKind, RootsTrue, stored}
use Rattle.lowering.specs.Images.{row_is, both_const, same_const, unequal_const}
use Rattle.lowering.specs.Tables.{same_read, same_function, same_call, read_good, call_good}
use Rattle.lowering.specs.Matching.{is_eq, is_level, walk, end_good, call_matches, var_matches, node_matches, row_answer, row_classes}
use Rattle.lowering.specs.Roots.{leads, pairs_with, pairs, reads_need, all_equal, congruent, root_at}
use Rattle.lowering.specs.Lowering.{Lowering, lowering}
use Rattle.lowering.specs.Check.{first_refusal, check_answer}
use Rattle.soundness.specs.Sound.{Accepts, value_of_source, value_of_target, SourceTrue, TargetTrue}
use Rattle.soundness.specs.Choices.{Within, AgreeOn, MappedVar, UnmappedVar, ClassZeroVar, classes_left, OpenInSource, OpenInTarget, SameChoices}
use Rattle.soundness.proofs.Accepted.{zeros, zero-interpretation, zeros-fit, zero-fits}
use Rattle.soundness.proofs.Model.{width_of}
use Rattle.soundness.proofs.Theorem.{same-choices}

-- source x = Var(8), a = Var(32), s = Select(7,a), Eq(x,s), Const 5 of 8 bits, Eq(s,5), y = Var(8), which has no image; target the same rows with
-- s = Var(8), the read's, and z = Var(8) at the end, which is nobody's; one list of roots for both
abbrev scan : List ℕ → Lowering
scan roots =
    lowering
    (0 ∷ 8 ∷ 0 ∷ 0 ∷ 0
    ∷ 0 ∷ 32 ∷ 0 ∷ 0 ∷ 0
    ∷ 37 ∷ 7 ∷ 1 ∷ 0 ∷ 0
    ∷ 19 ∷ 0 ∷ 2 ∷ 0 ∷ 0
    ∷ 1 ∷ 0 ∷ 8 ∷ 0 ∷ 0
    ∷ 19 ∷ 2 ∷ 4 ∷ 0 ∷ 0
    ∷ 0 ∷ 8 ∷ 0 ∷ 0 ∷ 0
    ∷ []) bits [] roots (0 ∷ 1 ∷ 2 ∷ 3 ∷ 4 ∷ 5 ∷ MAX ∷ []) (2 ∷ 7 ∷ 1 ∷ []) [] []
    (0 ∷ 8 ∷ 0 ∷ 0
    ∷ 0 ∷ 32 ∷ 0 ∷ 0
    ∷ 0 ∷ 8 ∷ 0 ∷ 0
    ∷ 19 ∷ 0 ∷ 2 ∷ 0
    ∷ 1 ∷ 0 ∷ 8 ∷ 0
    ∷ 19 ∷ 2 ∷ 4 ∷ 0
    ∷ 0 ∷ 8 ∷ 0 ∷ 0
    ∷ []) bits roots
  where
    bits : List ℕ
    bits = 1 ∷ 0 ∷ 1 ∷ 0 ∷ 0 ∷ 0 ∷ 0 ∷ 0 ∷ []

-- with the roots x = s and s = 5
abbrev five : Lowering
five = scan (3 ∷ 5 ∷ [])

abbrev room : List ℕ
room = 0 ∷ 0 ∷ 0 ∷ 0 ∷ 0 ∷ 0 ∷ 0 ∷ []

accepted : Accepts (scan []) room room room room × Accepts five room room room room × (classes_left five ≡ 1 ∷ 1 ∷ 4 ∷ 0 ∷ 0 ∷ 0 ∷ 0 ∷ [])
unfolding first_refusal build first all agree trace row_is both_const same_const unequal_const same_read same_function same_call read_good
    call_good is_eq
    is_level walk end_good call_matches var_matches node_matches row_answer row_classes leads pairs_with pairs reads_need all_equal congruent root_at
accepted = (refl, refl, refl)

-- numbers for rows 0, 1 and 6: x, a and y in the source, their images and z in the target
abbrev pick : ℕ → ℕ → ℕ → ℕ → ℕ
pick x a y r = cond (eqb r 0) x (cond (eqb r 1) a (cond (eqb r 6) y 0))

one_below : (t : Bool) (m k n : ℕ) → (t ≡ true → m < n) → k < n → cond t m k < n
one_below true m k n h l = h refl
one_below false m k n h l = l

pick-below : (x a y r n : ℕ) → (r ≡ 0 → x < n) → (r ≡ 1 → a < n) → (r ≡ 6 → y < n) → 0 < n → pick x a y r < n
pick-below x a y r n hx ha hy h =
    one_below (eqb r 0) x _ n (λ t. hx (eqb-true r 0 t))
    (one_below (eqb r 1) a _ n (λ t. ha (eqb-true r 1 t)) (one_below (eqb r 6) y 0 n (λ t. hy (eqb-true r 6 t)) h))

-- a number within the width of a variable's row
of_width : (n v w : ℕ) → n < 2 ^ v → v ≡ w → n < 2 ^ w
of_width n v w h e = subst (λ (z : ℕ). n < 2 ^ z) e h

-- y is nothing to the mapped variables, x and a are nothing to the unmapped one
pick-mapped : (x a y : ℕ) → AgreeOn (MappedVar (scan [])) (pick x a y) (pick x a 0)
pick-mapped x a y i w ((h, k), e) = ap (λ (n : ℕ). cond (eqb i 0) x (cond (eqb i 1) a n)) (go (eqb i 6) refl)
  where
    go : (t : Bool) → eqb i 6 ≡ t → cond t y 0 ≡ cond t 0 0
    go true q = absurd (k (rw (eqb-true i 6 q)))
    go false q = refl

pick-unmapped : (x a y : ℕ) → AgreeOn (UnmappedVar (scan [])) (pick x a y) (pick 0 0 y)
pick-unmapped x a y i w (h, k, e) = go (eqb i 0) refl (eqb i 1) refl
  where
    go : (s : Bool) → eqb i 0 ≡ s → (t : Bool) → eqb i 1 ≡ t → cond s x (cond t a (cond (eqb i 6) y 0)) ≡ cond s 0 (cond t 0 (cond (eqb i 6) y 0))
    go true p t q = let f : ⊥ = omega (arith, rw (eqb-true i 0 p) at k) in absurd f
    go false p true q = let f : ⊥ = omega (arith, rw (eqb-true i 1 q) at k) in absurd f
    go false p false q = refl

-- arrays that hold a byte everywhere
abbrev holding : ℕ → (ℕ → ℕ) → Interpretation
holding b v = record { variable = v; array = λ a x. b; function = λ f w vs. 0 }

module _ (roots : List ℕ) (x a y b : ℕ) (hx : x < 2 ^ 8) (ha : a < 2 ^ 32) (hy : y < 2 ^ 8) (hb : b < 2 ^ 8) where
  variables : (i w : ℕ) → node_of (row_at Source (scan []).source.rows i) ≡ Var w → pick x a y i < 2 ^ w
  variables i w e =
      pick-below x a y i (2 ^ w) (λ q. of_width x 8 w hx (ap width_of (rw q at e))) (λ q. of_width a 32 w ha (ap width_of (rw q at e)))
      (λ q. of_width y 8 w hy (ap width_of (rw q at e))) (pow_pos w)

  kinds : OfKind plain (holding b (pick x a y)) (scan roots).source.rows
  kinds = record { variables-fit = λ i w h e. variables i w e; cells_fit = λ c z. hb; results_fit = λ f w vs. pow_pos w }

  -- x, a and y are open in the source where some byte makes the roots true
  by_byte : RootsTrue (value_of_source (scan roots) (holding b (pick x a y))) roots → OpenInSource (scan roots) (pick x a 0) (pick 0 0 y)
  by_byte t = (holding b (pick x a y), (kinds, t), pick-mapped x a y, pick-unmapped x a y)

-- no roots are true
none : (values : ℕ → Val) → RootsTrue values []
none values k h = absurd (omega arith)

-- a true Eq has equal numbers
eq-says : (m n : ℕ) (t : Bool) → eqb m n ≡ t → eqb (of_bool t) 1 ≡ true → m ≡ n
eq-says m n true e h = eqb-true m n e
eq-says m n false e h = no_way (sym h)

-- "exactly when": the roots x = s and s = 5 leave 5 for x and nothing else, in the source whatever its arrays hold
roots-say : (I : Interpretation) → RootsTrue (value_of_source five I) (3 ∷ 5 ∷ []) → I.variable 0 ≡ 5
unfolding build operate of_bits stored
roots-say I t =
    eq-says (I.variable 0) (I.array 7 (I.variable 1)) _ refl (t 0 (omega arith))
    ∙ eq-says (I.array 7 (I.variable 1)) 5 _ refl (t 1 (omega arith))

roots-hold : (a y : ℕ) → RootsTrue (value_of_source five (holding 5 (pick 5 a y))) (3 ∷ 5 ∷ [])
unfolding build operate of_bits stored
roots-hold a y zero h = refl
roots-hold a y (suc zero) h = refl
roots-hold a y (suc (suc k)) h = absurd (omega arith)

-- y is the unmapped variable, z the one of class 0
y-fits : (y : ℕ) → y < 2 ^ 8 → Within (UnmappedVar (scan [])) (pick 0 0 y)
y-fits y hy i w (h, k, e) = variables [] 0 0 y 0 (omega arith) (omega arith) hy (omega arith) i w e

z-fits : (roots : List ℕ) (z : ℕ) → z < 2 ^ 8 → Within (ClassZeroVar (scan roots) (classes_left (scan roots))) (pick 0 0 z)
z-fits roots z hz r w (h, k, e) =
    pick-below 0 0 z r (2 ^ w) (λ q. pow_pos w) (λ q. pow_pos w) (λ q. of_width z 8 w hz (ap width_of (rw q at e))) (pow_pos w)

-- the theorem at these numbers
same : (roots : List ℕ) → Accepts (scan roots) room room room room → (x a y z : ℕ) → y < 2 ^ 8 → z < 2 ^ 8
    → OpenInSource (scan roots) (pick x a 0) (pick 0 0 y) ↔ OpenInTarget (scan roots) (classes_left (scan roots)) (pick x a 0) (pick 0 0 z)
same roots accepts x a y z hy hz =
    same-choices false (scan roots) room room room room (omega arith) accepts (pick x a 0) (pick 0 0 y) (pick 0 0 z) (y-fits y hy) (z-fits roots z hz)

-- Empty root lists: all that fits is open in the source, and so in the target
no-roots : (x a z : ℕ) → x < 2 ^ 8 → a < 2 ^ 32 → z < 2 ^ 8 → OpenInTarget (scan []) (classes_left (scan [])) (pick x a 0) (pick 0 0 z)
no-roots x a z hx ha hz =
    let (f, _) = same [] accepted.0 x a 0 z (omega arith) hz in
    f (by_byte [] x a 0 0 hx ha (omega arith) (omega arith) (none (value_of_source (scan []) (holding 0 (pick x a 0)))))

-- Roots that leave one value: x is 5 and nothing else, whatever is fixed for a, y and z. In the source, and so in the target
module _ (x a : ℕ) (ha : a < 2 ^ 32) where
  five-in-source : (y : ℕ) → y < 2 ^ 8 → OpenInSource five (pick x a 0) (pick 0 0 y) ↔ (x ≡ 5)
  five-in-source y hy = (
    λ (I, (k, t), m, n). sym (m 0 8 ((omega arith, λ e. omega arith), refl)) ∙ roots-say I t,
    λ e. rw e (by_byte (3 ∷ 5 ∷ []) 5 a y 5 (omega arith) ha hy (omega arith) (roots-hold a y)),
  )

  five-in-target : (z : ℕ) → z < 2 ^ 8 → OpenInTarget five (classes_left five) (pick x a 0) (pick 0 0 z) ↔ (x ≡ 5)
  five-in-target z hz =
      let (f, g) = same (3 ∷ 5 ∷ []) accepted.1 x a 0 z (omega arith) hz in
      let (s, t) = five-in-source 0 (omega arith) in
      (λ o. s (g o), λ e. f (t e))

-- A variable of class 0: the assignment has for z what was fixed for it
class-zero : (z : ℕ) → z < 2 ^ 8 → (A : ℕ → ℕ) × TargetTrue five A × (A 0 ≡ 5) × (A 6 ≡ z)
class-zero z hz =
    let (A, t, i, q) = (five-in-target 5 0 (omega arith) z hz).1 refl in
    (A, t, i 0 8 ((omega arith, λ e. omega arith), refl), q 6 8 (omega arith, ap (λ (l : List ℕ). get_or l 6 0) accepted.2, refl))

-- An unmapped variable: from an assignment, which knows nothing of y, an interpretation with what was fixed for it
unmapped : (y : ℕ) → y < 2 ^ 8 → (I : Interpretation) × SourceTrue five I × (I.variable 0 ≡ 5) × (I.variable 6 ≡ y)
unmapped y hy =
    let (_, g) = same (3 ∷ 5 ∷ []) accepted.1 5 0 y 0 hy (omega arith) in
    let (I, s, m, p) = g ((five-in-target 5 0 (omega arith) 0 (omega arith)).1 refl) in
    (I, s, m 0 8 ((omega arith, λ e. omega arith), refl), p 6 8 (omega arith, refl, refl))

-- Three lowerings that Check refuses, where the choices are not the same. The first two have a root that hangs on p or q alone: a source variable
-- without image, a target variable of class 0. In the third the target's root is the image of the other variable
abbrev by-unmapped : Lowering
by-unmapped = lowering (0 ∷ 1 ∷ 0 ∷ 0 ∷ 0 ∷ []) [] [] (0 ∷ []) (MAX ∷ []) [] [] [] [] [] []

abbrev by-class-zero : Lowering
by-class-zero = lowering [] [] [] [] [] [] [] [] (0 ∷ 1 ∷ 0 ∷ 0 ∷ []) [] (0 ∷ [])

abbrev by-image : Lowering
by-image =
    lowering (0 ∷ 1 ∷ 0 ∷ 0 ∷ 0 ∷ 0 ∷ 1 ∷ 0 ∷ 0 ∷ 0 ∷ []) [] [] (0 ∷ []) (1 ∷ 0 ∷ []) [] [] [] (0 ∷ 1 ∷ 0 ∷ 0 ∷ 0 ∷ 1 ∷ 0 ∷ 0 ∷ []) [] (0 ∷ [])

refused : map (λ (L : Lowering). words_of (check_answer L 7 7 7 7)) (by-unmapped ∷ by-class-zero ∷ by-image ∷ [])
    ≡ words 12 0 0 ∷ words 12 0 0 ∷ words 12 0 0 ∷ []
unfolding first_refusal build first all agree trace row_is both_const same_const unequal_const same_read same_function same_call read_good
    call_good is_eq
    is_level walk end_good call_matches var_matches node_matches row_answer row_classes leads pairs_with pairs reads_need all_equal congruent root_at
refused = refl

unmapped-decides : SameChoices by-unmapped [] → ⊥
unfolding build
unmapped-decides choices =
    let (_, g) = choices zeros zeros zeros (λ i w v. pow_pos w) (λ r w v. pow_pos w) in
    let true-roots = none (value_of_target by-unmapped zeros) in
    let (I, (k, t), m, p) = g (zeros, (zeros-fit by-unmapped, true-roots), λ i w v. refl, λ r w v. refl) in
    let one : I.variable 0 ≡ 1 = eqb-true _ _ (t 0 (omega arith)) in
    let nought : I.variable 0 ≡ 0 = p 0 1 (omega arith, refl, refl) in
    omega arith

class-zero-decides : SameChoices by-class-zero (0 ∷ []) → ⊥
unfolding build
class-zero-decides choices =
    let (f, _) = choices zeros zeros zeros (λ i w v. pow_pos w) (λ r w v. pow_pos w) in
    let true-roots = none (value_of_source by-class-zero zero-interpretation) in
    let (A, (k, t), m, q) = f (zero-interpretation, (zero-fits by-class-zero, true-roots), λ i w v. refl, λ i w v. refl) in
    let one : A 0 ≡ 1 = eqb-true _ _ (t 0 (omega arith)) in
    let nought : A 0 ≡ 0 = q 0 1 (omega arith, refl, refl) in
    omega arith

-- u is 1 for the first variable and 0 for the second
abbrev first-only : ℕ → ℕ
first-only zero = 1
first-only (suc i) = 0

image-decides : SameChoices by-image (1 ∷ 1 ∷ []) → ⊥
unfolding build
image-decides choices =
    let (f, _) = choices first-only first-only zeros (λ i w (h, k, e). fits i w e) (λ r w v. pow_pos w) in
    let (A, (k, t), m, q) = f (holding 0 first-only, (kind, root), λ i w v. refl, λ i w v. refl) in
    let one : A 0 ≡ 1 = eqb-true _ _ (t 0 (omega arith)) in
    let nought : A 0 ≡ 0 = m 1 1 ((omega arith, λ e. omega arith), refl) in
    omega arith
  where
    fits : (i w : ℕ) → node_of (row_at Source by-image.source.rows i) ≡ Var w → first-only i < 2 ^ w
    fits zero w e = of_width 1 1 w (omega arith) (ap width_of e)
    fits (suc i) w e = pow_pos w

    kind : OfKind plain (holding 0 first-only) by-image.source.rows
    kind = record { variables-fit = λ i w h e. fits i w e; cells_fit = λ c z. omega arith; results_fit = λ f w vs. pow_pos w }

    root : RootsTrue (value_of_source by-image (holding 0 first-only)) (0 ∷ [])
    root zero h = refl
    root (suc k) h = absurd (omega arith)
