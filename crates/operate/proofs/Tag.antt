-- Tags of one shape: what the tests on them tell. Assumes nothing.
use Prim.Native.Nat.{ℕ, ◌<◌}
use mathlib.Core.Path.{◌≡◌, refl, subst}
use mathlib.Core.Bool.{Bool, true, false, cond}
use borrow.Author.Tests.{eqb-true, eqb-false, ne_eqb}
use native.Mathlib.Omega.{arith}
use lib.Dec.{T}
use Rattle.rows.specs.Tags.{is_un, is_extend, t_concat}
use Rattle.rows.proofs.View.{TwoOperands}

-- neither of two tests
neither : (p q : Bool) → cond p true q ≡ false → (p ≡ false) × (q ≡ false)
neither true q e = absurd (subst T e tt)
neither false q e = (refl, e)

-- the last tag of a shape
pub is-neg : (t : ℕ) → is_un t ≡ true → (t ≡ 29 → ⊥) → (t ≡ 32 → ⊥) → t ≡ 33
is-neg t e p q = eqb-true t 33 (rw (ne_eqb t 29 p, ne_eqb t 32 q) at e)

pub is-sign : (t : ℕ) → is_extend t ≡ true → (t ≡ 16 → ⊥) → t ≡ 17
is-sign t e p = eqb-true t 17 (rw (ne_eqb t 16 p) at e)

-- no tag of another shape
not-extend : (t : ℕ) → is_extend t ≡ false → (t ≡ 16 → ⊥) × (t ≡ 17 → ⊥)
not-extend t e =
    let n = neither _ _ e in
    (eqb-false t 16 n.0, eqb-false t 17 n.1)

not-un : (t : ℕ) → is_un t ≡ false → (t ≡ 29 → ⊥) × (t ≡ 32 → ⊥) × (t ≡ 33 → ⊥)
not-un t e =
    let n = neither _ _ e in
    let m = neither _ _ n.1 in
    (eqb-false t 29 n.0, eqb-false t 32 m.0, eqb-false t 33 m.1)

-- past the tags of other shapes: Var and Const; Extract to Ite, where it is not Concat; Not; BvNot and Neg
pub past-const : (t : ℕ) → TwoOperands t → 1 < t
past-const t g =
    let p = eqb-false t 0 g.no-var in
    let q = eqb-false t 1 g.no_const in
    omega arith

pub past-ite : (t : ℕ) → TwoOperands t → (t ≡ t_concat → ⊥) → 13 < t → 18 < t
past-ite t g n h =
    let p = eqb-false t 14 g.no-extract in
    let q = not-extend t g.no-extend in
    let r = eqb-false t 18 g.no-ite in
    omega arith

pub past-not : (t : ℕ) → TwoOperands t → 28 < t → 29 < t
past-not t g h =
    let n = not-un t g.no-un in
    omega arith

pub past-neg : (t : ℕ) → TwoOperands t → 31 < t → 33 < t
past-neg t g h =
    let n = not-un t g.no-un in
    omega arith
