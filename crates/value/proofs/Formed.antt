-- In a well-formed target every row's value has the row's width and lies below 2 ^ width. Assumes nothing.
use Prim.Native.Nat.{ℕ, ◌+◌, ◌<◌, ◌≤◌, ◌^◌}
use mathlib.Core.Path.{◌≡◌, refl, sym, ap, ◌∙◌, subst}
use mathlib.Core.Bool.{Bool, true, false, cond}
use mathlib.Core.List.{List, [], ◌∷◌, map}
use native.Mathlib.Decide.{dec_lt}
use native.Mathlib.Omega.{arith}
use borrow.Author.Tests.{eq-eqb, ne_eqb, eqb-true, eqb-false, le-leb, lt-ltb}
use lib.Dec.{eqb}
use lib.Pow.{pow_pos}
use lib.ListN.{length, get_or, get_or-eq_default}
use Rattle.sorts.specs.Sorts.{Sorts}
use Rattle.bitwise.proofs.Digits.{of_bits_fits}
use Rattle.lists.proofs.Choice.{strong}
use Rattle.lists.proofs.Build.{build-length, build-at, build-stay}
use Rattle.rows.specs.declared.Graph.TheVariants.{Target}
use Rattle.rows.specs.declared.Node.{Node}
use Rattle.rows.specs.declared.Node.TheVariants.{Var, Const, Un, Bin, Extract, Extend, Ite, Select, Call, Unknown}
use Rattle.rows.specs.Row.{row_count, row_at}
use Rattle.rows.specs.Tags.{t_var, t_const, t_extract, t_not, is_un, is_extend}
use Rattle.rows.specs.Node.{node_of, operands}
use Rattle.rows.proofs.Tags.{extend-tags}
use Rattle.rows.proofs.View.{TagGood, node-good}
use Rattle.rules.specs.Rule.{same, un_width}
use Rattle.wf.specs.Promise.{RowFormed, WellFormed}
use Rattle.value.specs.Val.{Val, val, wid, arg, Fit}
use Rattle.value.specs.Operate.{operate, tag_of, parameters}
use Rattle.value.specs.Graph.{core_value, node_value, row_value, values_to, value, Assigns}
use Rattle.value.proofs.Fits.{operate-fits}

-- a number that passes a test is not one that fails it
pub apart : (p : ℕ → Bool) (k t : ℕ) → p k ≡ false → p t ≡ true → eqb t k ≡ false
apart p k t f h = ne_eqb t k (λ e. let g : p k ≡ true = rw e at h in let z : ◌≡◌ {A = ℕ} 0 1 = cc in omega arith)

extend-no-un : (t : ℕ) → is_extend t ≡ true → is_un t ≡ false
extend-no-un t = extend-tags (λ k. is_un k ≡ false) t refl refl

un-law : (t a : ℕ) → (t ≡ t_not → a ≡ 1) → un_width t a ≡ a
un-law t a h = go (eqb t t_not) refl
  where
    go : (b : Bool) → eqb t t_not ≡ b → cond b (same a 1 1) a ≡ a
    go true e = rw (h (eqb-true t t_not e))
    go false e = refl

-- operands that fit, in any list of them
fit-map : (look : ℕ → Val) → ((a : ℕ) → Fit (look a)) → (l : List ℕ) (j : ℕ) → Fit (arg (map look l) j)
fit-map look f [] j = omega arith
fit-map look f (a ∷ l) Prim.Native.Nat.zero = f a
fit-map look f (a ∷ l) (Prim.Native.Nat.suc j) = fit-map look f l j

module _ (bits side : List ℕ) (width : ℕ → ℕ) (look : ℕ → Val) (i : ℕ) (agree : (a : ℕ) → a < i → wid (look a) ≡ width a) where
  -- the operator's width is the row's
  pub core-width : {σ : Sorts} (node : Node) → TagGood node → tag_of node < 37 → (tag_of node ≡ t_var → ⊥)
      → RowFormed σ (length bits) side width i node
      → wid (core_value bits look node) ≡ width i
  unfolding operate
  core-width (Var w) g c v r = absurd (v refl)
  core-width (Const s w) g c v r = sym r.follows.0
  core-width (Un t a) g c v r =
      rw (apart is_un t_const t refl g, g, agree a r.earlier.0) (un-law t (width a) r.follows.1 ∙ sym r.follows.0)
  core-width (Bin t a b) g c v r =
      rw (g.no_const, g.no-un, g.no-extract, g.no-extend, g.no-ite, agree a r.earlier.0, agree b r.earlier.1.0)
      (sym r.follows.width_is)
  core-width (Extract h l a) g c v r =
      rw (agree a r.earlier.0, le-leb _ _ r.follows.1, lt-ltb _ _ r.follows.2) (sym r.follows.0)
  core-width (Extend t a n) g c v r =
      rw (apart is_extend t_const t refl g, extend-no-un t g, apart is_extend t_extract t refl g, g, agree a r.earlier.0) (sym r.follows)
  core-width (Ite x t e) g c v r =
      rw (agree x r.earlier.0, agree t r.earlier.1.0, agree e r.earlier.1.1.0, eq-eqb _ _ r.follows.2, eq-eqb _ _ r.follows.1)
      (sym r.follows.0)
  core-width (Select a j s k) g c v r = absurd (omega arith)
  core-width (Call f w s k) g c v r = absurd (omega arith)
  core-width Unknown g c v r = absurd (omega arith)

  const_fits : (node : Node) → ((k : ℕ) → get_or bits k 0 < 2) → tag_of node ≡ t_const
      → get_or (parameters bits node) 1 0 < 2 ^ get_or (parameters bits node) 0 0
  const_fits (Var w) clean e = absurd (omega arith)
  const_fits (Const s w) clean e = of_bits_fits w (λ k. get_or bits (s + k) 0) (λ k. clean (s + k))
  const_fits (Un t a) clean e = omega arith
  const_fits (Bin t a b) clean e = omega arith
  const_fits (Extract h l a) clean e = absurd (omega arith)
  const_fits (Extend t a n) clean e = pow_pos n
  const_fits (Ite x t a) clean e = omega arith
  const_fits (Select a j s k) clean e = omega arith
  const_fits (Call f w s k) clean e = omega arith
  const_fits Unknown clean e = omega arith

  -- a variable has the width that it names and the number given for its row
  var-formed : {σ : Sorts} (given : ℕ → ℕ) (node : Node) → TagGood node → tag_of node ≡ t_var → RowFormed σ (length bits) side width i node
      → ((w : ℕ) → node ≡ Var w → given i < 2 ^ w)
      → (get_or (parameters bits node) 0 0 ≡ width i) × (given i < 2 ^ get_or (parameters bits node) 0 0)
  var-formed given (Var w) g e r v = (sym r.follows, v w refl)
  var-formed given (Const s w) g e r v = absurd (omega arith)
  var-formed given (Un t a) g e r v = absurd (eqb-false t t_var (apart is_un t_var t refl g) e)
  var-formed given (Bin t a b) g e r v = absurd (eqb-false t t_var g.no-var e)
  var-formed given (Extract h l a) g e r v = absurd (omega arith)
  var-formed given (Extend t a n) g e r v = absurd (eqb-false t t_var (apart is_extend t_var t refl g) e)
  var-formed given (Ite x t a) g e r v = absurd (omega arith)
  var-formed given (Select a j s k) g e r v = absurd (omega arith)
  var-formed given (Call f w s k) g e r v = absurd (omega arith)
  var-formed given Unknown g e r v = absurd (omega arith)

  -- a row's value, where the operands before it have their widths and fit
  pub row-formed : {σ : Sorts} (given : ℕ → ℕ) (node : Node) → ((k : ℕ) → get_or bits k 0 < 2) → ((a : ℕ) → Fit (look a)) → TagGood node
      → tag_of node < 37
      → RowFormed σ (length bits) side width i node → ((w : ℕ) → node ≡ Var w → given i < 2 ^ w)
      → (wid (node_value bits given look i node) ≡ width i) × Fit (node_value bits given look i node)
  row-formed given node clean fits g c r v = go (eqb (tag_of node) t_var) refl
    where
      go : (b : Bool) → eqb (tag_of node) t_var ≡ b
          → (wid (cond b (val (get_or (parameters bits node) 0 0) (given i)) (core_value bits look node)) ≡ width i)
          × Fit (cond b (val (get_or (parameters bits node) 0 0) (given i)) (core_value bits look node))
      go true e = var-formed given node g (eqb-true (tag_of node) t_var e) r v
      go false e =
          let no : tag_of node ≡ t_var → ⊥ = eqb-false (tag_of node) t_var e in
          let w = core-width node g c no r in
          let above : 0 < wid (core_value bits look node) = rw w r.is-width.positive in (
            w,
            operate-fits (tag_of node) (omega (arith, no)) c (parameters bits node) _ (fit-map look fits (operands node)) (const_fits node clean)
                above,
          )

module _ {σ : Sorts} (bits side g ws : List ℕ) (given : ℕ → ℕ) (formed : WellFormed σ Target (length bits) side g ws)
    (clean : (k : ℕ) → get_or bits k 0 < 2) (core : (i : ℕ) → i < row_count Target g → tag_of (node_of (row_at Target g i)) < 37)
    (assigns : Assigns given g) where
  -- every row's value has the row's width and lies below 2 ^ width
  pub value-formed : (i : ℕ) → i < row_count Target g → (wid (value bits given g i) ≡ get_or ws i 0) × Fit (value bits given g i)
  value-formed = strong P step
    where
      f : ℕ → List Val → Val
      f = row_value bits given g

      n : ℕ
      n = row_count Target g

      P : ℕ → Type 0
      P i = i < n → (wid (value bits given g i) ≡ get_or ws i 0) × Fit (value bits given g i)

      step : (i : ℕ) → ((j : ℕ) → j < i → P j) → P i
      step i ih h =
          rw (build-at f (val 0 0) n i h)
          (row-formed bits side (λ a. get_or ws a 0) (λ a. get_or (values_to bits given g i) a (val 0 0)) i
          (λ a l. ap wid (sym (stay a l)) ∙ (ih a l (omega arith)).0)
          given (node_of (row_at Target g i)) clean (λ a. fits a (dec_lt a i)) (node-good (row_at Target g i)) (core i h) (formed i h)
          (λ w q. assigns i w h q))
        where
          stay : (a : ℕ) → a < i → value bits given g a ≡ get_or (values_to bits given g i) a (val 0 0)
          stay a l = build-stay f (val 0 0) n i a l (omega arith)

          fits : (a : ℕ) → Dec (a < i) → Fit (get_or (values_to bits given g i) a (val 0 0))
          fits a (yes l) = subst Fit (stay a l) (ih a l (omega arith)).1
          fits a (no l) =
              let past : length (values_to bits given g i) ≤ a = rw (build-length f i) (omega arith) in
              rw (get_or-eq_default (values_to bits given g i) (val 0 0) past) (omega arith)
