-- Which roots are true: those of value 1, at any width; by the strict truth those of one bit alone; none past the rows; no Ne of a row with itself.
-- Assumes nothing.
use Prim.Native.Nat.{ℕ, zero, suc, ◌<◌, ◌≤◌, ◌^◌}
use mathlib.Core.Path.{◌≡◌, refl, sym, ap, ◌∙◌}
use mathlib.Core.Bool.{Bool, true, false, cond}
use mathlib.Core.List.{List, [], ◌∷◌}
use native.Mathlib.Omega.{arith}
use borrow.Author.Tests.{eq-eqb, eqb-true}
use lib.Dec.{eqb}
use lib.ListN.{length, get_or, get_or-eq_default}
use lib.Pow.{pow_pos}
use Rattle.sorts.specs.Sorts.{Sorts, plain}
use Rattle.lists.specs.Build.{build}
use Rattle.lists.specs.Tests.{all}
use Rattle.lists.proofs.Build.{build-length, build-at}
use Rattle.lists.proofs.Choice.{no_way}
use Rattle.rows.specs.declared.Graph.TheVariants.{Source, Target}
use Rattle.rows.specs.declared.Node.TheVariants.{Var, Bin}
use Rattle.rows.specs.Row.{row_count, row_at}
use Rattle.rows.specs.Node.{node_of}
use Rattle.value.specs.Val.{Val, val, wid, nat}
use Rattle.value.specs.Operate.{operate}
use Rattle.value.specs.Graph.{node_value, row_value, value}
use Rattle.meaning.specs.Meaning.{Interpretation, source_node, source_row, source_value, is_true, is_true_bit, RootsTrue}
use Rattle.meaning.specs.Meaning.{SourceSatisfiable, SourceSatisfiableBy, TargetSatisfiable}

-- "A root is true when its value is 1, at any width"
pub true-one : (w n : ℕ) → is_true (val w n) ≡ true → n ≡ 1
true-one w n e = eqb-true n 1 e

pub one-true : (w n : ℕ) → n ≡ 1 → is_true (val w n) ≡ true
one-true w n e = eq-eqb n 1 e

width-8 : (is_true (val 8 3) ≡ false) × (is_true (val 8 1) ≡ true) × (is_true (val 8 0) ≡ false) × (is_true (val 1 1) ≡ true)
width-8 = (refl, refl, refl, refl)

-- "Under the strict check a root is true only as a one-bit row with value 1" (02, 2.6)
bits-and-wider : (is_true_bit (val 1 1) ≡ true) × (is_true_bit (val 1 0) ≡ false) × (is_true_bit (val 8 1) ≡ false) × (is_true_bit (val 0 1) ≡ false)
unfolding all
bits-and-wider = (refl, refl, refl, refl)

-- at one bit the two truths agree
pub one-bit-truth : (v : Val) → wid v ≡ 1 → is_true_bit v ≡ is_true v
unfolding all
one-bit-truth (val w n) e = rw (eq-eqb w 1 e) (same (eqb n 1))
  where
    same : (b : Bool) → cond b true false ≡ b
    same true = refl
    same false = refl

-- a root that is not true
not-true : (values : ℕ → Val) (roots : List ℕ) (k : ℕ) → k < length roots → is_true (values (get_or roots k 0)) ≡ false → RootsTrue values roots → ⊥
not-true values roots k h e r = no_way (sym (r k h) ∙ e)

-- ---- a root past the rows
past : (f : ℕ → List Val → Val) (n i : ℕ) → n ≤ i → is_true (get_or (build f n) i (val 0 0)) ≡ false
past f n i h = let l : length (build f n) ≤ i = rw (build-length f n) h in ap is_true (get_or-eq_default (build f n) (val 0 0) l)

pub source-past : (σ : Sorts) (g bits side roots : List ℕ) (k : ℕ) → k < length roots → row_count Source g ≤ get_or roots k 0
    → SourceSatisfiable σ g bits side roots → ⊥
source-past σ g bits side roots k h l (I, kind, r) =
    not-true (source_value σ g bits side I) roots k h (past (source_row σ g bits side I) (row_count Source g) (get_or roots k 0) l) r

pub target_past : (g bits roots : List ℕ) (k : ℕ) → k < length roots → row_count Target g ≤ get_or roots k 0 → TargetSatisfiable g bits roots → ⊥
target_past g bits roots k h l (given, fits, r) =
    not-true (value bits given g) roots k h (past (row_value bits given g) (row_count Target g) (get_or roots k 0) l) r

-- ---- a root Ne(v, v)
abbrev t_ne : ℕ
t_ne = 20

ne-itself : (bits : List ℕ) (given : ℕ → ℕ) (look : ℕ → Val) (i v : ℕ) → is_true (node_value bits given look i (Bin t_ne v v)) ≡ false
unfolding operate
ne-itself bits given look i v = rw (eq-eqb (nat (look v)) (nat (look v)) refl)

pub source-ne : (σ : Sorts) (g bits side roots : List ℕ) (k v : ℕ) → k < length roots → get_or roots k 0 < row_count Source g
    → node_of (row_at Source g (get_or roots k 0)) ≡ Bin t_ne v v → SourceSatisfiable σ g bits side roots → ⊥
source-ne σ g bits side roots k v h l e (I, kind, r) =
    let i = get_or roots k 0 in
    let look : ℕ → Val = λ a. get_or (build (source_row σ g bits side I) i) a (val 0 0) in
    not-true (source_value σ g bits side I) roots k h
    (ap is_true (build-at (source_row σ g bits side I) (val 0 0) (row_count Source g) i l ∙ ap (source_node σ bits side I look i) e)
    ∙ ne-itself bits I.variable look i v)
    r

pub target-ne : (g bits roots : List ℕ) (k v : ℕ) → k < length roots → get_or roots k 0 < row_count Target g
    → node_of (row_at Target g (get_or roots k 0)) ≡ Bin t_ne v v → TargetSatisfiable g bits roots → ⊥
target-ne g bits roots k v h l e (given, fits, r) =
    let i = get_or roots k 0 in
    let look : ℕ → Val = λ a. get_or (build (row_value bits given g) i) a (val 0 0) in
    not-true (value bits given g) roots k h
    (ap is_true (build-at (row_value bits given g) (val 0 0) (row_count Target g) i l ∙ ap (node_value bits given look i) e)
    ∙ ne-itself bits given look i v)
    r

-- ---- closed graphs
abbrev given : ℕ → Interpretation
given n = record { variable = λ i. n; array = λ a x. 0; function = λ f w vs. 0 }

abbrev source-8 : List ℕ
source-8 = 0 ∷ 8 ∷ 0 ∷ 0 ∷ 0 ∷ []

-- Var(8), roots [0]: the value 3 does not make the root true; the value 1 does, so the source is satisfiable
three-false : RootsTrue (source_value plain source-8 [] [] (given 3)) (0 ∷ []) → ⊥
unfolding build
three-false = not-true (source_value plain source-8 [] [] (given 3)) (0 ∷ []) 0 (omega arith) refl

one-true-root : RootsTrue (source_value plain source-8 [] [] (given 1)) (0 ∷ [])
unfolding build
one-true-root zero h = refl
one-true-root (suc k) h = absurd (omega arith)

one-fits : (i w : ℕ) → i < row_count Source source-8 → node_of (row_at Source source-8 i) ≡ Var w → 1 < 2 ^ w
one-fits zero w h e = let q : ◌≡◌ {A = ℕ} 8 w = cc in rw (← q) (omega arith)
one-fits (suc i) w h e = absurd (omega arith)

one-satisfies : SourceSatisfiable plain source-8 [] [] (0 ∷ [])
one-satisfies = (given 1, record { variables-fit = one-fits; cells_fit = λ a x. pow_pos 8; results_fit = λ f w vs. pow_pos w }, one-true-root)

target-three : RootsTrue (value [] (λ i. 3) (0 ∷ 8 ∷ 0 ∷ 0 ∷ [])) (0 ∷ []) → ⊥
unfolding build
target-three = not-true (value [] (λ i. 3) (0 ∷ 8 ∷ 0 ∷ 0 ∷ [])) (0 ∷ []) 0 (omega arith) refl

-- and by the strict truth no value does
eight-bits-false : SourceSatisfiableBy is_true_bit plain source-8 [] [] (0 ∷ []) → ⊥
unfolding build all
eight-bits-false (I, kind, r) = no_way (sym (r 0 (omega arith)))

-- Var(8), Ne(0, 0), roots [1]: unsatisfiable; roots [2], past the rows: unsatisfiable
source-unsatisfiable : SourceSatisfiable plain (0 ∷ 8 ∷ 0 ∷ 0 ∷ 0 ∷ 20 ∷ 0 ∷ 0 ∷ 0 ∷ 0 ∷ []) [] [] (1 ∷ []) → ⊥
source-unsatisfiable = source-ne plain (0 ∷ 8 ∷ 0 ∷ 0 ∷ 0 ∷ 20 ∷ 0 ∷ 0 ∷ 0 ∷ 0 ∷ []) [] [] (1 ∷ []) 0 0 (omega arith) (omega arith) refl

target-unsatisfiable : TargetSatisfiable (0 ∷ 8 ∷ 0 ∷ 0 ∷ 20 ∷ 0 ∷ 0 ∷ 0 ∷ []) [] (1 ∷ []) → ⊥
target-unsatisfiable = target-ne (0 ∷ 8 ∷ 0 ∷ 0 ∷ 20 ∷ 0 ∷ 0 ∷ 0 ∷ []) [] (1 ∷ []) 0 0 (omega arith) (omega arith) refl

source-root-past : SourceSatisfiable plain (0 ∷ 8 ∷ 0 ∷ 0 ∷ 0 ∷ 20 ∷ 0 ∷ 0 ∷ 0 ∷ 0 ∷ []) [] [] (2 ∷ []) → ⊥
source-root-past = source-past plain (0 ∷ 8 ∷ 0 ∷ 0 ∷ 0 ∷ 20 ∷ 0 ∷ 0 ∷ 0 ∷ 0 ∷ []) [] [] (2 ∷ []) 0 (omega arith) (omega arith)

target-root-past : TargetSatisfiable (0 ∷ 8 ∷ 0 ∷ 0 ∷ 20 ∷ 0 ∷ 0 ∷ 0 ∷ []) [] (2 ∷ []) → ⊥
target-root-past = target_past (0 ∷ 8 ∷ 0 ∷ 0 ∷ 20 ∷ 0 ∷ 0 ∷ 0 ∷ []) [] (2 ∷ []) 0 (omega arith) (omega arith)
