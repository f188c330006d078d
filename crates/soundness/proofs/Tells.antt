-- What a congruence root says under an assignment: the antecedent and the conclusion as equations of values. Assumes nothing.
use Prim.Native.Nat.{ℕ, zero, suc, ◌-◌, ◌<◌, ◌≤◌}
use mathlib.Core.Path.{◌≡◌, refl, sym, ap, ◌∙◌}
use mathlib.Core.Bool.{Bool, true, false, cond}
use mathlib.Core.Logic.{⊎_elim}
use mathlib.Core.List.{[]}
use native.Mathlib.Nat.{eq-or-lt_of_le}
use native.Mathlib.Omega.{arith}
use borrow.Author.Tests.{eq-eqb, eqb-true, ltb-true}
use lib.Dec.{eqb}
use lib.ListN.{length, get_or}
use Rattle.sorts.specs.Sorts.{plain}
use Rattle.bv.specs.Bits.{of_bits, of_bool}
use Rattle.bv.specs.Bv.{bvnot, bvand, bvor}
use Rattle.lists.proofs.Tests.{all_true}
use Rattle.rows.specs.declared.Node.{Node}
use Rattle.rows.specs.declared.Node.TheVariants.{Un, Bin, Ite}
use Rattle.rows.specs.Tags.{t_eq, t_not, t_bool_and, t_bool_or}
use Rattle.wf.specs.Promise.{RowFormed}
use Rattle.value.specs.Val.{Val, val, wid, nat}
use Rattle.value.specs.Operate.{operate}
use Rattle.value.specs.Graph.{node_value, Assigns}
use Rattle.value.proofs.Formed.{value-formed}
use Rattle.lowering.specs.Images.{field_at}
use Rattle.lowering.specs.Matching.{is_eq}
use Rattle.lowering.specs.Roots.{all_equal, congruent}
use Rattle.lowering.specs.Lowering.{Lowering, target_rows}
use Rattle.lowering.specs.Check.{widths_of_target}
use Rattle.lowering.proofs.Images.{eq-row}
use Rattle.soundness.specs.Sound.{value_of_target}
use Rattle.soundness.proofs.Facts.{T, Formed}
use Rattle.soundness.proofs.Images.{and-row, or-row, not-row}
use Rattle.meaning.proofs.Values.{target-value}

-- the number n is 1 where P holds and 0 where it does not
pub record Tells (n : ℕ) (P : Type 0) : Type 0 where
  pub test : Bool
  pub is : n ≡ of_bool test
  pub says : test ≡ true → P
  pub from : P → test ≡ true

pub tells-out : {n : ℕ} {P : Type 0} → Tells n P → n ≡ 1 → P
tells-out {n} t e = t.says (go t.test (sym t.is ∙ e))
  where
    go : (b : Bool) → of_bool b ≡ 1 → b ≡ true
    go true z = refl
    go false z = absurd (omega arith)

pub tells-in : {n : ℕ} {P : Type 0} → Tells n P → P → n ≡ 1
tells-in t p = t.is ∙ rw (t.from p)

tells_at : {k n : ℕ} {P Q : Type 0} → k ≡ n → (P → Q) → (Q → P) → Tells n P → Tells k Q
tells_at e f g t = record { test = t.test; is = e ∙ t.is; says = λ h. f (t.says h); from = λ q. t.from (g q) }

tells-eqb : (a b : ℕ) → Tells (of_bool (eqb a b)) (a ≡ b)
tells-eqb a b = record { test = eqb a b; is = refl; says = eqb-true a b; from = eq-eqb a b }

tells-and : {k n : ℕ} {P Q : Type 0} → Tells k P → Tells n Q → Tells (bvand 1 k n) (P × Q)
unfolding of_bits
tells-and s t =
    record {
      test = cond s.test t.test false;
      is = rw (s.is, t.is) (bits s.test t.test);
      says = λ h. out s.test t.test s.says t.says h;
      from = λ (p, q). rw (s.from p, t.from q);
    }
  where
    bits : (b c : Bool) → bvand 1 (of_bool b) (of_bool c) ≡ of_bool (cond b c false)
    bits true true = refl
    bits true false = refl
    bits false true = refl
    bits false false = refl

    out : {P Q : Type 0} (b c : Bool) → (b ≡ true → P) → (c ≡ true → Q) → cond b c false ≡ true → P × Q
    out true c f g h = (f refl, g h)
    out false c f g h = (f h, g (cc))

-- BoolOr(Not(k), n)
tells-if : {k n : ℕ} {P Q : Type 0} → Tells k P → Tells n Q → Tells (bvor 1 (bvnot 1 k) n) (P → Q)
unfolding of_bits
tells-if s t =
    record {
      test = cond s.test t.test true;
      is = rw (s.is, t.is) (bits s.test t.test);
      says = λ h p. out s.test t.test (s.from p) t.says h;
      from = λ f. into s.test t.test (λ h. t.from (f (s.says h)));
    }
  where
    bits : (b c : Bool) → bvor 1 (bvnot 1 (of_bool b)) (of_bool c) ≡ of_bool (cond b c true)
    bits true true = refl
    bits true false = refl
    bits false true = refl
    bits false false = refl

    out : {Q : Type 0} (b c : Bool) → b ≡ true → (c ≡ true → Q) → cond b c true ≡ true → Q
    out true c e g h = g h
    out false c e g h = g (cc)

    into : (b c : Bool) → (b ≡ true → c ≡ true) → cond b c true ≡ true
    into true c f = f refl
    into false c f = refl

pub val-ext : (u v : Val) → wid u ≡ wid v → nat u ≡ nat v → u ≡ v
val-ext (val w n) (val z k) p q = rw (p, q)

module _ (L : Lowering) (F : Formed L) (A : ℕ → ℕ) (assigns : Assigns A L.target.rows) where
  -- the value and the width of a target row
  abbrev pub tv : ℕ → Val
  tv r = value_of_target L A r

  abbrev pub tw : ℕ → ℕ
  tw r = get_or (widths_of_target L) r 0

  pub row-value : (r : ℕ) (node : Node) → r < target_rows L → T L r ≡ node → tv r ≡ node_value L.target.bits A tv r node
  row-value r node h e =
      target-value L.target.bits [] L.target.rows (widths_of_target L) A F.target-formed r h ∙ ap (node_value L.target.bits A tv r) e

  pub row-width : (r : ℕ) → r < target_rows L → wid (tv r) ≡ tw r
  row-width r h =
      (value-formed L.target.bits [] L.target.rows (widths_of_target L) A F.target-formed F.target-bits F.target-core assigns r h).0

  pub row-formed : (r : ℕ) (node : Node) → r < target_rows L → T L r ≡ node → RowFormed plain (length L.target.bits) [] tw r node
  row-formed r node h e = rw e at (F.target-formed r h)

  pub eq_number : (r a b : ℕ) → r < target_rows L → T L r ≡ Bin t_eq a b → nat (tv r) ≡ of_bool (eqb (nat (tv a)) (nat (tv b)))
  unfolding operate
  eq_number r a b h e = ap nat (row-value r (Bin t_eq a b) h e)

  pub ite-number : (r c t e : ℕ) → r < target_rows L → T L r ≡ Ite c t e → nat (tv r) ≡ cond (eqb (nat (tv c)) 1) (nat (tv t)) (nat (tv e))
  unfolding operate
  ite-number r c t e h q = ap nat (row-value r (Ite c t e) h q)

  and-number : (r a b : ℕ) → r < target_rows L → T L r ≡ Bin t_bool_and a b → nat (tv r) ≡ bvand 1 (nat (tv a)) (nat (tv b))
  unfolding operate
  and-number r a b h e =
      let f = row-formed r (Bin t_bool_and a b) h e in
      ap nat (row-value r (Bin t_bool_and a b) h e) ∙ rw (row-width a (omega (arith, f.earlier.0)), (f.follows.bits refl).0)

  or-not-number : (r n a b : ℕ) → r < target_rows L → T L r ≡ Bin t_bool_or n b → n < target_rows L → T L n ≡ Un t_not a
      → nat (tv r) ≡ bvor 1 (bvnot 1 (nat (tv a))) (nat (tv b))
  unfolding operate
  or-not-number r n a b h e k q =
      let f = row-formed r (Bin t_bool_or n b) h e in
      let g = row-formed n (Un t_not a) k q in
      let z : nat (tv n) ≡ bvnot 1 (nat (tv a)) =
      ap nat (row-value n (Un t_not a) k q) ∙ rw (row-width a (omega (arith, g.earlier.0)), g.follows.1 refl) in
      ap nat (row-value r (Bin t_bool_or n b) h e) ∙ rw (row-width n k, (f.follows.bits refl).0, z)

  -- the rows under an Eq have one width
  eq-width : (a b r : ℕ) → is_eq L.target.rows a b r ≡ true → wid (tv a) ≡ wid (tv b)
  eq-width a b r t =
      let (h, e) = eq-row L.target.rows a b r t in
      let f = row-formed r (Bin t_eq a b) h e in
      row-width a (omega (arith, f.earlier.0)) ∙ f.follows.even (λ z. omega arith) ∙ sym (row-width b (omega (arith, f.earlier.1.0)))

  eq-tells : (a b r : ℕ) → is_eq L.target.rows a b r ≡ true → Tells (nat (tv r)) (tv a ≡ tv b)
  eq-tells a b r t =
      let (h, e) = eq-row L.target.rows a b r t in
      tells_at (eq_number r a b h e) (λ q. val-ext _ _ (eq-width a b r t) q) (λ q. ap nat q) (tells-eqb _ _)

  -- xs and ys agree at 0, .., n
  abbrev pub Same : (ℕ → ℕ) → (ℕ → ℕ) → ℕ → Type 0
  Same xs ys n = (l : ℕ) → l ≤ n → tv (xs l) ≡ tv (ys l)

  equal-tells : (xs ys : ℕ → ℕ) (n r : ℕ) → all_equal L.target.rows xs ys n r ≡ true → Tells (nat (tv r)) (Same xs ys n)
  unfolding all_equal
  equal-tells xs ys zero r t =
      tells_at refl (λ q l h. let z : l ≡ 0 = omega arith in rw z q) (λ f. f 0 (omega arith)) (eq-tells (xs 0) (ys 0) r t)
  equal-tells xs ys (suc n) r t =
      let (h, (e, (q, (f, _)))) = all_true _ t in
      let x = field_at L.target.rows r 1 in
      let y = field_at L.target.rows r 2 in
      tells_at (and-number r x y (ltb-true _ _ h) (and-row L.target.rows r e))
      (λ (s, z) l k. ⊎_elim (λ w. rw w z) (λ w. s l (omega arith)) (eq-or-lt_of_le k))
      (λ s. (λ l k. s l (omega arith), s (suc n) (omega arith)))
      (tells-and (equal-tells xs ys n x f) (eq-tells (xs (suc n)) (ys (suc n)) y q))

  -- a congruence root says: where the k rows xs and ys have one value each, u and v have one
  pub cong-tells : (xs ys : ℕ → ℕ) (k u v r : ℕ) → congruent L.target.rows xs ys k u v r ≡ true
      → Tells (nat (tv r)) (((l : ℕ) → l < k → tv (xs l) ≡ tv (ys l)) → tv u ≡ tv v)
  unfolding congruent
  cong-tells xs ys k u v r t =
      let (p, (h, (e, (q, (g, (s, (a, _))))))) = all_true _ t in
      let n = field_at L.target.rows r 1 in
      let pos : 0 < k = ltb-true _ _ p in
      tells_at (or-not-number r n (field_at L.target.rows n 1) (field_at L.target.rows r 2) (ltb-true _ _ h) (or-row L.target.rows r e)
      (ltb-true _ _ g) (not-row L.target.rows n s))
      (λ f x. f (λ l b. x l (omega arith)))
      (λ f x. f (λ l b. x l (omega arith)))
      (tells-if (equal-tells xs ys (k - 1) (field_at L.target.rows n 1) a) (eq-tells u v (field_at L.target.rows r 2) q))

  pub cong-width : (xs ys : ℕ → ℕ) (k u v r : ℕ) → congruent L.target.rows xs ys k u v r ≡ true → wid (tv u) ≡ wid (tv v)
  unfolding congruent
  cong-width xs ys k u v r t = let (_, (_, (_, (q, _)))) = all_true _ t in eq-width u v (field_at L.target.rows r 2) q
