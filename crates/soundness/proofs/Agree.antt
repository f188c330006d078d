-- An interpretation of the source and an assignment of the target that agree on the variables agree on every mapped row: what both directions
-- share. The leaves (variables, read entries, call entries) are parameters, which may use what is already known of earlier rows. Assumes nothing.
use Prim.Native.Nat.{ℕ, zero, suc, ◌+◌, ◌<◌, ◌≤◌}
use mathlib.Core.Path.{◌≡◌, refl, sym, ap, ◌∙◌, subst}
use mathlib.Core.Bool.{Bool, true, false, cond}
use mathlib.Core.List.{List, [], ◌∷◌, map}
use native.Mathlib.Omega.{arith}
use borrow.Author.Tests.{eq-eqb, ne_eqb}
use lib.Dec.{eqb}
use lib.ListN.{length, get_or}
use Rattle.bitwise.proofs.Digits.{bit-of_bits}
use Rattle.bv.specs.Bits.{bit, of_bool}
use Rattle.lists.specs.Tests.{all}
use Rattle.lists.specs.Trace.{tabulate}
use Rattle.lists.proofs.Choice.{strong, no_way}
use Rattle.lists.proofs.Tests.{agree-yes}
use Rattle.rows.specs.declared.Graph.TheVariants.{Source}
use Rattle.rows.specs.declared.Node.{Node}
use Rattle.rows.specs.declared.Node.TheVariants.{Var, Const, Un, Bin, Extract, Extend, Ite, Select, Call, Unknown}
use Rattle.rows.specs.Row.{row_at}
use Rattle.rows.specs.Tags.{t_const, t_eq}
use Rattle.rows.specs.Node.{operands}
use Rattle.wf.specs.Promise.{Below, RowFormed}
use Rattle.value.specs.Val.{Val, val, wid, nat}
use Rattle.value.specs.Operate.{operate, const_number}
use Rattle.value.specs.Graph.{node_value, Assigns}
use Rattle.meaning.specs.Meaning.{Interpretation, stored, source_node}
use Rattle.lowering.specs.declared.Walk.{Walk}
use Rattle.lowering.specs.declared.Walk.TheVariants.{Met, Lost}
use Rattle.lowering.specs.Images.{field_at, both_const, same_const}
use Rattle.lowering.specs.Matching.{is_level, walk}
use Rattle.lowering.specs.Lowering.{array_sorts, Lowering, source_rows, target_rows}
use Rattle.lowering.specs.Check.{widths_of_source}
use Rattle.lowering.proofs.Images.{const-row, both-const, eq-row}
use Rattle.soundness.specs.Sound.{value_of_source}
use Rattle.soundness.proofs.Facts.{S, T, m, Mapped, Formed, SameCore, ReadOf, CallOf, Ends, walk_of, Found, Matched}
use Rattle.soundness.proofs.Images.{ite-row, same_const_lem}
use Rattle.meaning.proofs.Values.{Pairs, pairs-formed, source-value, source-width}
use Rattle.soundness.proofs.Tells.{tv, row-value, row-width, row-formed, eq_number, ite-number, val-ext}

bool-test : (b : Bool) → eqb (of_bool b) 1 ≡ b
bool-test true = refl
bool-test false = refl

-- two constants of one width that are not the same have unequal numbers
pub unequal-numbers : (b c r q : List ℕ) → ((k : ℕ) → get_or b k 0 < 2) → ((k : ℕ) → get_or c k 0 < 2) → both_const r q ≡ true
    → same_const b r c q ≡ false
    → get_or r 2 0 ≡ get_or q 2 0 → const_number b (get_or r 1 0) (get_or r 2 0) ≡ const_number c (get_or q 1 0) (get_or q 2 0) → ⊥
unfolding same_const all
unequal-numbers b c r q cb cc' k n w e =
    no_way (sym (rw (k, eq-eqb _ _ w, agree-yes _ _ (get_or r 2 0) bits)) ∙ n)
  where
    bits : (j : ℕ) → j < get_or r 2 0 → get_or b (get_or r 1 0 + j) 0 ≡ get_or c (get_or q 1 0 + j) 0
    bits j h =
        sym (bit-of_bits (get_or r 2 0) (λ k. get_or b (get_or r 1 0 + k) 0) j (λ k. cb (get_or r 1 0 + k)) h)
        ∙ ap (λ (z : ℕ). bit z j) e
        ∙ bit-of_bits (get_or q 2 0) (λ k. get_or c (get_or q 1 0 + k) 0) j (λ k. cc' (get_or q 1 0 + k)) (rw (← w) h)

module _ (L : Lowering) (F : Formed L) (M : Matched L) (I : Interpretation) (A : ℕ → ℕ) (assigns : Assigns A L.target.rows) where
  -- the value and the width of a source row
  abbrev pub sv : ℕ → Val
  sv i = value_of_source L I i

  abbrev pub sw : ℕ → ℕ
  sw i = get_or (widths_of_source L) i 0

  abbrev pub tv' : ℕ → Val
  tv' r = tv L F A assigns r

  abbrev pub Agree : ℕ → Type 0
  Agree i = Mapped L i → sv i ≡ tv' (m L i)

  abbrev pub LeafVar : Type 0
  LeafVar = (i w : ℕ) → Mapped L i → S L i ≡ Var w → I.variable i ≡ A (m L i)

  -- a read entry's variable r, at a source row x whose image is the entry's index
  abbrev pub LeafRead : Type 0
  LeafRead = (q r a x : ℕ) → ReadOf L q r a (m L x) → Mapped L x → ((j : ℕ) → j ≤ x → Agree j) → I.array a (nat (sv x)) ≡ A r

  -- a call entry's variable r, at source rows xs below i whose images are the entry's arguments
  abbrev pub LeafCall : Type 0
  LeafCall = (q r f i w k : ℕ) (xs : ℕ → ℕ) → CallOf L q r f k (λ l. m L (xs l)) → T L r ≡ Var w → ((l : ℕ) → l < k → xs l < i) → i < source_rows L
      → ((j : ℕ) → j < i → Agree j) → I.function f w (tabulate (λ l. sv (xs l)) k) ≡ A r

  node-value : (i : ℕ) (node : Node) → i < source_rows L → S L i ≡ node
      → sv i ≡ source_node (array_sorts L) L.source.bits L.source.side I sv i node
  node-value i node h e =
      source-value L.source.bits L.source.side L.source.rows (widths_of_source L) I F.source-formed i h
      ∙ ap (source_node (array_sorts L) L.source.bits L.source.side I sv i) e

  node-formed : (i : ℕ) (node : Node) → i < source_rows L → S L i ≡ node
      → RowFormed (array_sorts L) (length L.source.bits) L.source.side sw i node
  node-formed i node h e = rw e at (F.source-formed i h)

  -- operands and their images
  images : (i r : ℕ) (ops : List ℕ) → ((j : ℕ) → j < i → Agree j) → i < source_rows L → r < target_rows L → Below i ops → Below r (map (m L) ops)
      → map sv ops ≡ map tv' (map (m L) ops)
  images i r [] ih h k b c = refl
  images i r (a ∷ ops) ih h k b c = rw (ih a b.0 (omega (arith, b.0), omega (arith, c.0)), images i r ops ih h k b.1 c.1)

  -- a core row: one operator on values that agree
  core-agree : (i : ℕ) (node : Node) → ((j : ℕ) → j < i → Agree j) → Mapped L i → S L i ≡ node → SameCore L node (T L (m L i))
      → node_value L.source.bits I.variable sv i node ≡ tv' (m L i)
  core-agree i node ih (h, k) e c =
      let b : Below (m L i) (map (m L) (operands node)) =
      rw c.mapped-operands at (row-formed L F A assigns (m L i) (T L (m L i)) k refl).earlier in
      let s : map sv (operands node) ≡ map tv' (operands (T L (m L i))) =
      images i (m L i) (operands node) ih h k (node-formed i node h e).earlier b ∙ ap (map tv') (sym c.mapped-operands) in
      sym (row-value L F A assigns (m L i) (T L (m L i)) k refl ∙ rw (c.same_tag, c.no-var, c.same-parameters, ← s))

  -- a constant row's value
  const-value : (i : ℕ) → i < source_rows L → get_or (row_at Source L.source.rows i) 0 0 ≡ t_const
      → sv i ≡ val (get_or (row_at Source L.source.rows i) 2 0)
      (const_number L.source.bits (get_or (row_at Source L.source.rows i) 1 0) (get_or (row_at Source L.source.rows i) 2 0))
  unfolding operate
  const-value i h e = node-value i _ h (const-row (row_at Source L.source.rows i) e)

  const-width : (i : ℕ) → i < source_rows L → get_or (row_at Source L.source.rows i) 0 0 ≡ t_const → sw i ≡ get_or (row_at Source L.source.rows i) 2 0
  const-width i h e = (node-formed i _ h (const-row (row_at Source L.source.rows i) e)).follows.0

  -- the walk along a Select's pairs: from row r on, it computes what the pairs from s on store, else the cell
  walk-agree : LeafRead → (i a j : ℕ) → ((x : ℕ) → x < i → Agree x) → i < source_rows L → j < i → sw j ≡ (array_sorts L).index a
      → (k s r : ℕ) → Pairs ((array_sorts L).index a) ((array_sorts L).cell a) sw i L.source.side k s → r < target_rows L
      → Ends L a j (walk_of L j k s r)
      → (nat (tv' r) ≡ stored sv L.source.side (nat (sv j)) (I.array a (nat (sv j))) k s) × (wid (tv' r) ≡ (array_sorts L).cell a)
  unfolding walk stored
  walk-agree leaf i a j ih h lj wj zero s r p hr (q, z) =
      let e = M.of-read q z.inside in
      let (x, mx, ex) = e.index-image in
      let mj : Mapped L j = (omega arith, rw (← z.index_is, ← ex) mx.1) in
      let v : tv' r ≡ val ((array_sorts L).cell a) (A r) =
      row-value L F A assigns r (Var ((array_sorts L).cell a)) hr
      (subst (λ (b : ℕ). T L r ≡ Var ((array_sorts L).cell b)) z.array-is (rw z.variable-is at e.is-var)) in
      (ap nat v ∙ sym (leaf q r a j z mj (λ x l. ih x (omega arith))), ap wid v)
  walk-agree leaf i a j ih h lj wj (suc k) s r (lp, wp, lv, wv, rest) hr t =
      go (λ y hy u. walk-agree leaf i a j ih h lj wj k (s + 2) y rest hy u) _ refl _ refl _ refl t
    where
      p : ℕ
      p = get_or L.source.side s 0

      v : ℕ
      v = get_or L.source.side (s + 1) 0

      x : ℕ
      x = nat (sv j)

      more : ℕ
      more = stored sv L.source.side x (I.array a x) k (s + 2)

      next : ℕ → Walk
      next y = walk_of L j k (s + 2) y

      sp : List ℕ
      sp = row_at Source L.source.rows p

      sj : List ℕ
      sj = row_at Source L.source.rows j

      go : ((y : ℕ) → y < target_rows L → Ends L a j (next y) → (nat (tv' y) ≡ more) × (wid (tv' y) ≡ (array_sorts L).cell a))
          → (b : Bool) → both_const (row_at Source L.source.rows p) (row_at Source L.source.rows j) ≡ b
          → (c : Bool) → same_const L.source.bits (row_at Source L.source.rows p) L.source.bits (row_at Source L.source.rows j) ≡ c
          → (d : Bool) → is_level L.target.rows (m L p) (m L j) (m L v) r ≡ d
          → Ends L a j (cond b (cond c (Met r v) (next r)) (cond d (next (field_at L.target.rows r 3)) Lost))
          → (nat (tv' r) ≡ cond (eqb (nat (sv p)) x) (nat (sv v)) more) × (wid (tv' r) ≡ (array_sorts L).cell a)
      go rec true eb true ec d ed u =
          let (kp, kj) = both-const sp sj eb in
          let (np, nj, same) = same_const_lem L.source.bits L.source.bits sp sj ec in
          let n = ap (λ (l : List ℕ). get_or l 1 0) (rw (np, nj) at same) in
          let e : nat (sv p) ≡ x = ap nat (const-value p (omega arith) kp) ∙ n ∙ sym (ap nat (const-value j (omega arith) kj)) in
          let v' : sv v ≡ tv' r = ih v lv (omega arith, rw (← u) hr) ∙ ap tv' (sym u) in (
            rw (eq-eqb _ _ e, v'),
            ap wid (sym v') ∙ source-width L.source.bits L.source.side L.source.rows (widths_of_source L) I
                F.source-formed v (omega arith) ∙ wv,
          )
      go rec true eb false ec d ed u =
          let (kp, kj) = both-const sp sj eb in
          let w : get_or sp 2 0 ≡ get_or sj 2 0 = sym (const-width p (omega arith) kp) ∙ wp ∙ sym wj ∙ const-width j (omega arith) kj in
          let ne = unequal-numbers L.source.bits L.source.bits sp sj F.source-bits F.source-bits eb ec w in
          rw (ne_eqb _ _ (λ q. ne (sym (ap nat (const-value p (omega arith) kp)) ∙ q ∙ ap nat (const-value j (omega arith) kj)))) (rec r hr u)
      go rec false eb c ec true ed u =
          let (_, er, te) = ite-row L.target.rows (m L p) (m L j) (m L v) r ed in
          let y = field_at L.target.rows r 1 in
          let z = field_at L.target.rows r 3 in
          let fr = row-formed L F A assigns r (Ite y (m L v) z) hr er in
          let (hy, ey) = eq-row L.target.rows (m L p) (m L j) y te in
          let fy = row-formed L F A assigns y (Bin t_eq (m L p) (m L j)) hy ey in
          let ap' = ih p lp (omega arith, omega (arith, fy.earlier.0)) in
          let aj = ih j lj (omega arith, omega (arith, fy.earlier.1.0)) in
          let av = ih v lv (omega arith, omega (arith, fr.earlier.1.0)) in
          let hz : z < target_rows L = omega (arith, fr.earlier.1.1.0) in
          let (nz, wz) = rec z hz u in (
            ite-number L F A assigns r y (m L v) z hr er ∙ rw (eq_number L F A assigns y (m L p) (m L j) hy ey, bool-test, ← ap', ← aj, ← av, nz),
            row-width L F A assigns r hr ∙ fr.follows.0 ∙ fr.follows.1 ∙ sym (row-width L F A assigns z hz) ∙ wz,
          )
      go rec false eb c ec false ed u = absurd u

  -- agreement on mapped rows
  pub agree-rows : LeafVar → LeafRead → LeafCall → (i : ℕ) → Agree i
  agree-rows leaf-var leaf-read leaf-call = strong Agree (λ i ih k. node-value i (S L i) k.0 refl ∙ go i ih k (S L i) refl (M.of_row i k))
    where
      go : (i : ℕ) → ((j : ℕ) → j < i → Agree j) → Mapped L i → (node : Node) → S L i ≡ node → Found L i node
          → source_node (array_sorts L) L.source.bits L.source.side I sv i node ≡ tv' (m L i)
      go i ih k (Var w) e f = ap (val w) (leaf-var i w k e) ∙ sym (row-value L F A assigns (m L i) (Var w) k.1 f)
      go i ih k (Const s w) e f = core-agree i (Const s w) ih k e f
      go i ih k (Un t a) e f = core-agree i (Un t a) ih k e f
      go i ih k (Bin t a b) e f = core-agree i (Bin t a b) ih k e f
      go i ih k (Extract h l a) e f = core-agree i (Extract h l a) ih k e f
      go i ih k (Extend t a n) e f = core-agree i (Extend t a n) ih k e f
      go i ih k (Ite c t b) e f = core-agree i (Ite c t b) ih k e f
      go i ih k (Select a j s n) e f =
          let r = node-formed i (Select a j s n) k.0 e in
          let p = pairs-formed ((array_sorts L).index a) ((array_sorts L).cell a) sw i L.source.side n s r.follows.2 in
          let (x, y) = walk-agree leaf-read i a j ih k.0 r.earlier.0 r.follows.1 n s (m L i) p k.1 f in
          val-ext _ _ (sym y) (sym x)
      go i ih k (Call f w s n) e (t, (q, c)) =
          let r = node-formed i (Call f w s n) k.0 e in
          ap (val w) (leaf-call q (m L i) f i w n (λ l. get_or L.source.side (s + l) 0) c t (λ l h. (r.follows.1 l h).arg-earlier) k.0 ih)
          ∙ sym (row-value L F A assigns (m L i) (Var w) k.1 t)
      go i ih k Unknown e f = absurd f
