-- Reachability among entries: the variables that an image reaches are used by rows up to its own, so an entry whose index or arguments reach
-- another's variable is first used after the other. Entries cannot chase each other in a circle. Assumes nothing.
use Prim.Native.Nat.{ℕ, zero, suc, ◌+◌, ◌<◌, ◌≤◌}
use mathlib.Core.Path.{◌≡◌, refl, sym, ap, ◌∙◌, subst}
use mathlib.Core.Bool.{Bool, true, false, cond}
use mathlib.Core.Logic.{◌⊎◌, inl, inr}
use mathlib.Core.List.{List, [], ◌∷◌, map}
use native.Mathlib.Omega.{arith}
use borrow.Author.Tests.{eq-eqb, eqb-true, lt-ltb, ltb-true}
use lib.Dec.{eqb, ltb}
use lib.ListN.{length, get_or}
use Rattle.lists.specs.First.{first}
use Rattle.lists.specs.Tests.{all}
use Rattle.lists.proofs.Choice.{strong, no_way}
use Rattle.lists.proofs.First.{first-hit, first-upto}
use Rattle.lists.proofs.Tests.{all_true}
use Rattle.rows.specs.declared.Graph.TheVariants.{Source}
use Rattle.rows.specs.declared.Node.{Node}
use Rattle.rows.specs.declared.Node.TheVariants.{Var, Const, Un, Bin, Extract, Extend, Ite, Select, Call, Unknown}
use Rattle.rows.specs.Row.{MAX, row_at}
use Rattle.rows.specs.Tags.{t_var, t_eq}
use Rattle.rows.specs.Node.{operands}
use Rattle.wf.specs.Promise.{Below, RowFormed}
use Rattle.value.specs.Operate.{tag_of}
use Rattle.lowering.specs.declared.Walk.{Walk}
use Rattle.lowering.specs.declared.Walk.TheVariants.{Met, Lost}
use Rattle.lowering.specs.Images.{field_at, both_const, same_const}
use Rattle.lowering.specs.Tables.{read_index, arg_count, call_arg}
use Rattle.lowering.specs.Matching.{is_level, walk}
use Rattle.lowering.specs.Lowering.{array_sorts, Lowering, source_rows, target_rows}
use Rattle.lowering.specs.Check.{widths_of_source}
use Rattle.lowering.proofs.Images.{eq-row}
use Rattle.soundness.proofs.Facts.{S, T, m, Mapped, Formed, SameCore, Ends, walk_of, Found, Owner, by-var, by_read, by_call, Owns, Matched}
use Rattle.soundness.specs.Passed.{Passed}
use Rattle.soundness.proofs.Images.{ite-row}
use Rattle.meaning.proofs.Values.{Pairs, pairs-formed}
use Rattle.soundness.proofs.Classes.{used_end, used_at, used, Uses, Used}
use Rattle.soundness.proofs.Owners.{SentBefore, Behind, use-behind, live}

-- a number of a list
abbrev pub Among : ℕ → List ℕ → Type 0
Among a [] = ⊥
Among a (b ∷ l) = (a ≡ b) ⊎ Among a l

below-among : (n a : ℕ) (l : List ℕ) → Below n l → Among a l → a < n
below-among n a [] b x = absurd x
below-among n a (c ∷ l) b (inl e) = rw e b.0
below-among n a (c ∷ l) b (inr x) = below-among n a l b.1 x

-- from target row r, target row t is reached along operands
pub data Reach (L : Lowering) : ℕ → ℕ → Type 0 where
  here : {r : ℕ} → Reach L r r
  over : {r t : ℕ} (a : ℕ) → Among a (operands (T L r)) → Reach L a t → Reach L r t

module _ (L : Lowering) where
  -- every variable that is reached from target row r is used by a row up to row i
  pub record Covered (i r : ℕ) : Type 0 where
    pub user : (t w : ℕ) → T L t ≡ Var w → Reach L r t → (x : ℕ) × (x ≤ i) × Uses L x t

  abbrev pub AllCovered : ℕ → List ℕ → Type 0
  AllCovered i [] = Unit {0}
  AllCovered i (a ∷ l) = Covered i a × AllCovered i l

  covered-later : (i k r : ℕ) → i ≤ k → Covered i r → Covered k r
  covered-later i k r h c = record { user = λ t w v x. let (y, l, u) = c.user t w v x in (y, omega arith, u) }

  covered-among : (i a : ℕ) (l : List ℕ) → AllCovered i l → Among a l → Covered i a
  covered-among i a [] c x = absurd x
  covered-among i a (b ∷ l) c (inl e) = subst (Covered i) (sym e) c.0
  covered-among i a (b ∷ l) c (inr x) = covered-among i a l c.1 x

  -- a variable that is used; another row over rows that are covered
  covered-var : (i r w : ℕ) → T L r ≡ Var w → Uses L i r → Covered i r
  covered-var i r w e u = record { user = λ t v n x. go t x }
    where
      go : (t : ℕ) → Reach L r t → (x : ℕ) × (x ≤ i) × Uses L x t
      go t here = (i, omega arith, u)
      go t (over a x y) = absurd (rw e at x)

  covered-node : (i r : ℕ) (node : Node) → T L r ≡ node → eqb (tag_of node) t_var ≡ false → AllCovered i (operands node) → Covered i r
  covered-node i r node e n c = record { user = λ t w v x. go t w v r e x }
    where
      go : (t w : ℕ) → T L t ≡ Var w → (r : ℕ) → T L r ≡ node → Reach L r t → (x : ℕ) × (x ≤ i) × Uses L x t
      go t w v r e here = no_way (sym (ap (λ (k : Node). eqb (tag_of k) t_var) (sym e ∙ v)) ∙ n)
      go t w v r e (over a x y) = (covered-among i a (operands node) c (rw e at x)).user t w v y

module _ (L : Lowering) (F : Formed L) (M : Matched L) where
  abbrev Reached : ℕ → Type 0
  Reached i = Mapped L i → Covered L i (m L i)

  -- operands of a target row come before it, so does all that is reached
  target-earlier : (r : ℕ) (node : Node) → r < target_rows L → T L r ≡ node → Below r (operands node)
  target-earlier r node h e = rw e at (F.target-formed r h).earlier

  pub reach-down : (r t : ℕ) → r < target_rows L → Reach L r t → t ≤ r
  reach-down r t h here = omega arith
  reach-down r t h (over a x y) =
      let l : a < r = below-among r a (operands (T L r)) (target-earlier r (T L r) h refl) x in
      let k : t ≤ a = reach-down a t (omega arith) y in
      omega arith

  -- mapped row i, where what the images of earlier rows reach is known
  module _ (i : ℕ) (at_row : Mapped L i) (ih : (j : ℕ) → j < i → Reached j) where
    earlier : (a : ℕ) → a < i → m L a < target_rows L → Covered L i (m L a)
    earlier a l u = covered-later L a i (m L a) (omega arith) (ih a l (omega (arith, at_row.0), u))

    all-earlier : (r : ℕ) (l : List ℕ) → r < target_rows L → Below i l → Below r (map (m L) l) → AllCovered L i (map (m L) l)
    all-earlier r [] u b c = tt
    all-earlier r (a ∷ l) u b c = (earlier a b.0 (omega (arith, c.0)), all-earlier r l u b.1 c.1)

    core-reached : (node : Node) → Below i (operands node) → SameCore L node (T L (m L i)) → Covered L i (m L i)
    core-reached node b c =
        let d : Below (m L i) (map (m L) (operands node)) = rw c.mapped-operands at (target-earlier (m L i) (T L (m L i)) at_row.1 refl) in
        let all = all-earlier (m L i) (operands node) at_row.1 b d in
        covered-node L i (m L i) (T L (m L i)) refl (rw c.same_tag c.no-var) (rw c.mapped-operands all)

    -- one level of a walk, where the rest is covered
    level-reached : (p j v r : ℕ) → p < i → j < i → v < i → r < target_rows L → is_level L.target.rows (m L p) (m L j) (m L v) r ≡ true
        → (field_at L.target.rows r 3 < target_rows L → Covered L i (field_at L.target.rows r 3)) → Covered L i r
    level-reached p j v r lp lj lv h e rest =
        let (_, er, te) = ite-row L.target.rows (m L p) (m L j) (m L v) r e in
        let y = field_at L.target.rows r 1 in
        let z = field_at L.target.rows r 3 in
        let fr = target-earlier r (Ite y (m L v) z) h er in
        let (hy, ey) = eq-row L.target.rows (m L p) (m L j) y te in
        let fy = target-earlier y (Bin t_eq (m L p) (m L j)) hy ey in
        let cp = earlier p lp (omega (arith, fy.0)) in
        let cj = earlier j lj (omega (arith, fy.1.0)) in
        let test = covered-node L i y (Bin t_eq (m L p) (m L j)) ey refl (cp, (cj, tt)) in
        covered-node L i r (Ite y (m L v) z) er refl (test, (earlier v lv (omega (arith, fr.1.0)), (rest (omega (arith, fr.1.1.0)), tt)))

    -- the walk along a Select's pairs, from target row r on
    walk-reached : (a j : ℕ) → j < i → (k s r : ℕ)
        → Pairs ((array_sorts L).index a) ((array_sorts L).cell a) (λ x. get_or (widths_of_source L) x 0) i L.source.side k s
        → r < target_rows L → Ends L a j (walk_of L j k s r) → used L i ≡ used_end L (walk_of L j k s r) → Covered L i r
    unfolding walk
    walk-reached a j lj zero s r p h (q, z) e = covered-var L i r _ (rw z.variable-is at (M.of-read q z.inside).is-var) (at_row, e)
    walk-reached a j lj (suc k) s r (lp, wp, lv, wv, rest) h t e =
        go (λ z h u n. walk-reached a j lj k (s + 2) z rest h u n) (both_const sp sj) (same_const L.source.bits sp L.source.bits sj) _ refl t e
      where
        sp : List ℕ
        sp = row_at Source L.source.rows (get_or L.source.side s 0)

        sj : List ℕ
        sj = row_at Source L.source.rows j

        v : ℕ
        v = get_or L.source.side (s + 1) 0

        next : ℕ → Walk
        next z = walk_of L j k (s + 2) z

        go : ((z : ℕ) → z < target_rows L → Ends L a j (next z) → used L i ≡ used_end L (next z) → Covered L i z)
            → (b c d : Bool) → is_level L.target.rows (m L (get_or L.source.side s 0)) (m L j) (m L v) r ≡ d
            → Ends L a j (cond b (cond c (Met r v) (next r)) (cond d (next (field_at L.target.rows r 3)) Lost))
            → used L i ≡ used_end L (cond b (cond c (Met r v) (next r)) (cond d (next (field_at L.target.rows r 3)) Lost)) → Covered L i r
        go rec true true d ed u n = rw u (earlier v lv (rw (← u) h))
        go rec true false d ed u n = rec r h u n
        go rec false c true ed u n = level-reached (get_or L.source.side s 0) j v r lp lj lv h ed (λ k. rec (field_at L.target.rows r 3) k u n)
        go rec false c false ed u n = absurd u

    node-reached : (node : Node) → S L i ≡ node
        → RowFormed (array_sorts L) (length L.source.bits) L.source.side (λ a. get_or (widths_of_source L) a 0) i node → Found L i node
        → Covered L i (m L i)
    node-reached (Var w) e g f = covered-var L i (m L i) w f (at_row, ap (used_at L (m L i)) e)
    node-reached (Const s w) e g f = core-reached (Const s w) g.earlier f
    node-reached (Un t a) e g f = core-reached (Un t a) g.earlier f
    node-reached (Bin t a b) e g f = core-reached (Bin t a b) g.earlier f
    node-reached (Extract h l a) e g f = core-reached (Extract h l a) g.earlier f
    node-reached (Extend t a n) e g f = core-reached (Extend t a n) g.earlier f
    node-reached (Ite c t b) e g f = core-reached (Ite c t b) g.earlier f
    node-reached (Select a j s k) e g f =
        let p =
        pairs-formed ((array_sorts L).index a) ((array_sorts L).cell a) (λ x. get_or (widths_of_source L) x 0) i L.source.side k s g.follows.2 in
        walk-reached a j g.earlier.0 k s (m L i) p at_row.1 f (ap (used_at L (m L i)) e)
    node-reached (Call f w s k) e g (t, c) = covered-var L i (m L i) w t (at_row, ap (used_at L (m L i)) e)
    node-reached Unknown e g f = absurd f

  -- a variable that the image of row i reaches is used by a row up to row i
  pub reached : (i : ℕ) → Mapped L i → Covered L i (m L i)
  reached = strong Reached (λ i ih x. node-reached i x ih (S L i) refl (F.source-formed i x.0) (M.of_row i x))

module _ (L : Lowering) where
  -- row i uses target variable r, as a test; the first row that does
  unfoldable pub uses : ℕ → ℕ → Bool
  uses r i = all (ltb (m L i) (target_rows L) ∷ eqb (used L i) r ∷ [])

  abbrev pub rank : ℕ → ℕ
  rank r = first (uses r) (source_rows L)

  uses-yes : (i r : ℕ) → Uses L i r → uses r i ≡ true
  unfolding uses all
  uses-yes i r (x, e) = rw (lt-ltb _ _ x.1, eq-eqb _ _ e)

  -- no row before the rank uses r, and the rank does where any row does
  pub rank-upto : (i r : ℕ) → Uses L i r → rank r ≤ i
  rank-upto i r u = first-upto (uses r) (source_rows L) i (uses-yes i r u)

  pub rank-uses : (r : ℕ) → Used L r → Uses L (rank r) r
  unfolding uses
  rank-uses r (i, u) =
      let h : rank r < source_rows L = omega (arith, rank-upto i r u, u.0.0) in
      let (a, (b, _)) = all_true _ (first-hit (uses r) (source_rows L) h) in
      ((h, ltb-true _ _ a), eqb-true _ _ b)

  -- the target rows that an owner names besides its variable: a read's index, each argument of a call
  abbrev pub Needs : Owner → ℕ → Type 0
  Needs (by-var i) y = ⊥
  Needs (by_read q) y = read_index L.reads q ≡ y
  Needs (by_call q) y = (l : ℕ) × (l < arg_count L.calls q) × (call_arg L.calls L.cargs q l ≡ y)

  -- they come from rows before any row that stands behind the owner
  needs-before : (o : Owner) (i y : ℕ) → Behind L o i → Needs o y → SentBefore L i y
  needs-before (by-var x) i y b n = absurd n
  needs-before (by_read q) i y b n = rw n at b
  needs-before (by_call q) i y b (l, h, n) = rw n at (b l h)

module _ (L : Lowering) (P : Passed L) (F : Formed L) (M : Matched L) (small : target_rows L ≤ MAX) where
  -- an owner's variable is a Var, what it needs is a row of the target
  owner-var : (o : Owner) (r : ℕ) → Owns L o r → (w : ℕ) × (T L r ≡ Var w)
  owner-var (by-var i) r (x, (w, e), q) = (w, rw (← q) (subst (Found L i) e (M.of_row i x)))
  owner-var (by_read q) r (h, v) = (_, rw v at (M.of-read q h).is-var)
  owner-var (by_call q) r (h, v) = (_, rw v at (M.of-call q h).is-var)

  needs-inside : (o : Owner) (r y : ℕ) → Owns L o r → Needs L o y → y < target_rows L
  needs-inside (by-var i) r y x n = absurd n
  needs-inside (by_read q) r y (h, v) n = let (_, x, e) = (M.of-read q h).index-image in rw (← n, ← e) x.1
  needs-inside (by_call q) r y (h, v) (l, u, n) = let (_, x, e) = (M.of-call q h).args-image l u in rw (← n, ← e) x.1

  -- where a row that one owner needs reaches another's variable, the other's is used first
  pub rank_falls : (o p : Owner) (r t y : ℕ) → Owns L o r → Owns L p t → Needs L o y → Reach L y t → rank L t < rank L r
  rank_falls o p r t y x z n g = go (live L P F small o r x) (owner-var p t z)
    where
      go : (r < target_rows L) × Used L r → (w : ℕ) × (T L t ≡ Var w) → rank L t < rank L r
      go (h, v) (w, e) =
          let u = rank-uses L r v in
          let (j, l, q) = needs-before L o (rank L r) y (use-behind L P F small o (rank L r) r h x u) n in
          let c = reached L F M j (omega (arith, u.0.0), rw q (needs-inside o r y x n)) in
          let (i, b, d) = c.user t w e (rw q g) in
          omega (arith, rank-upto L i t d)
