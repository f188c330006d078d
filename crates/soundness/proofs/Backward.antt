-- Backward: the interpretation that belongs to an assignment makes the source's roots true where that makes the target's. Assumes nothing.
use Prim.Native.Nat.{ℕ, ◌<◌, ◌≤◌, ◌^◌}
use mathlib.Core.Path.{◌≡◌, refl, sym, ap, ◌∙◌, subst}
use mathlib.Core.Bool.{Bool, true, false, cond}
use mathlib.Core.Logic.{⊎_elim}
use mathlib.Core.List.{List, [], ◌∷◌}
use native.Mathlib.Nat.{eq-or-lt_of_le}
use native.Mathlib.Omega.{arith}
use borrow.Author.Tests.{eq-eqb, eqb-true, lt-ltb, ltb-true, not-true}
use lib.Dec.{eqb, ltb}
use lib.ListN.{length, get_or}
use Rattle.lists.specs.Tests.{all}
use Rattle.lists.specs.Trace.{tabulate}
use Rattle.lists.proofs.First.{first-hit, first-upto}
use Rattle.lists.proofs.Tests.{all_true, agree-yes, tabulate-same, tabulate-at, tabulate-length}
use Rattle.rows.specs.declared.Graph.TheVariants.{Target}
use Rattle.rows.specs.declared.Node.TheVariants.{Var}
use Rattle.rows.specs.Row.{row_at}
use Rattle.rows.specs.Tags.{t_const}
use Rattle.value.specs.Val.{Val, val, wid, nat}
use Rattle.value.specs.Operate.{operate, const_number}
use Rattle.value.specs.Graph.{Assigns}
use Rattle.value.proofs.Tagged.{node-var}
use Rattle.meaning.specs.Meaning.{Interpretation, OfKind, RootsTrue, source_value}
use Rattle.lowering.specs.Images.{field_at, unequal_const}
use Rattle.lowering.specs.Tables.{read_count, read_var, read_array, read_index, call_count, call_var, call_function, arg_count, call_arg}
use Rattle.lowering.specs.Tables.{result_width, arg_width, same_function}
use Rattle.lowering.specs.Lowering.{array_sorts, Lowering, source_rows, target_rows}
use Rattle.lowering.specs.Check.{widths_of_target}
use Rattle.lowering.proofs.Images.{const-row, both-const}
use Rattle.soundness.specs.Transfer.{same_val, same_vals, read_hit, call_hit, read_at, call_at, interpretation}
use Rattle.soundness.proofs.Facts.{S, m, one_function, Formed, ReadCong, CallCong, Matched, root_of}
use Rattle.soundness.proofs.Tells.{tv, row-value, row-width, cong-tells, tells-out, val-ext}
use Rattle.soundness.proofs.Agree.{sv, Agree, LeafRead, LeafCall, agree-rows, unequal-numbers}
use Rattle.soundness.proofs.Forward.{of-var}

-- lists of values that the test finds equal are equal, and it finds equal ones so
same_val-true : (u v : Val) → same_val u v ≡ true → u ≡ v
same_val-true (val w n) (val z k) e = let (a, (b, _)) = all_true (eqb w z ∷ eqb n k ∷ []) e in rw (eqb-true w z a, eqb-true n k b)

same_vals-true : (us vs : List Val) → same_vals us vs ≡ true → us ≡ vs
same_vals-true [] [] e = refl
same_vals-true [] (v ∷ vs) e = cc
same_vals-true (u ∷ us) [] e = cc
same_vals-true (u ∷ us) (v ∷ vs) e =
    let (a, (b, _)) = all_true (same_val u v ∷ same_vals us vs ∷ []) e in
    rw (same_val-true u v a, same_vals-true us vs b)

same_val-refl : (v : Val) → same_val v v ≡ true
unfolding all
same_val-refl (val w n) = rw (eq-eqb w w refl, eq-eqb n n refl)

same_vals-refl : (vs : List Val) → same_vals vs vs ≡ true
unfolding all
same_vals-refl [] = refl
same_vals-refl (v ∷ vs) = rw (same_val-refl v, same_vals-refl vs)

-- what the interpretation gives a variable
pub variable-at : (L : Lowering) (A : ℕ → ℕ) (J : Interpretation) (i : ℕ)
    → (interpretation L A J).variable i ≡ cond (ltb (m L i) (target_rows L)) (A (m L i)) (J.variable i)
unfolding interpretation
variable-at L A J i = refl

module _ (L : Lowering) (F : Formed L) (M : Matched L) (A : ℕ → ℕ) (fits : Assigns A L.target.rows) (J : Interpretation) where
  abbrev I : Interpretation
  I = interpretation L A J

  abbrev v : ℕ → Val
  v r = tv L F A fits r

  -- the arguments of a call entry
  abbrev args : ℕ → List Val
  args q = tabulate (λ l. v (call_arg L.calls L.cargs q l)) (arg_count L.calls q)

  at-cell : (a x : ℕ) → I.array a x ≡ cond (ltb (read_at L A a x) (read_count L.reads)) (A (read_var L.reads (read_at L A a x))) (J.array a x)
  unfolding interpretation
  at-cell a x = refl

  at-result : (f w : ℕ) (vs : List Val)
      → I.function f w vs ≡ cond (ltb (call_at L A f w vs) (call_count L.calls)) (A (call_var L.calls (call_at L A f w vs))) (J.function f w vs)
  unfolding interpretation
  at-result f w vs = refl

  -- an entry hits its own key; what hits has the key
  read-hits : (q a x : ℕ) → read_array L.reads q ≡ a → nat (v (read_index L.reads q)) ≡ x → read_hit L A a x q ≡ true
  unfolding read_hit all
  read-hits q a x e n = rw (eq-eqb _ _ e, eq-eqb _ _ n)

  read-hit : (q a x : ℕ) → read_hit L A a x q ≡ true → (read_array L.reads q ≡ a) × (nat (v (read_index L.reads q)) ≡ x)
  unfolding read_hit
  read-hit q a x e = let (b, (c, _)) = all_true _ e in (eqb-true _ _ b, eqb-true _ _ c)

  call-hits : (q f w : ℕ) (vs : List Val) → call_function L.calls q ≡ f → field_at L.target.rows (call_var L.calls q) 1 ≡ w → args q ≡ vs
      → call_hit L A f w vs q ≡ true
  unfolding call_hit all
  call-hits q f w vs e z n = rw (eq-eqb _ _ e, eq-eqb _ _ z, n, same_vals-refl vs)

  call-hit : (q f w : ℕ) (vs : List Val) → call_hit L A f w vs q ≡ true
      → (call_function L.calls q ≡ f) × (field_at L.target.rows (call_var L.calls q) 1 ≡ w) × (args q ≡ vs)
  unfolding call_hit
  call-hit q f w vs e = let (a, (b, (c, _))) = all_true _ e in (eqb-true _ _ a, eqb-true _ _ b, same_vals-true _ _ c)

  -- the number of an entry's variable
  read_number : (q : ℕ) → q < read_count L.reads → nat (v (read_var L.reads q)) ≡ A (read_var L.reads q)
  read_number q h = let e = M.of-read q h in ap nat (row-value L F A fits (read_var L.reads q) _ e.inside e.is-var)

  call-number : (q : ℕ) → q < call_count L.calls → nat (v (call_var L.calls q)) ≡ A (call_var L.calls q)
  call-number q h = let e = M.of-call q h in ap nat (row-value L F A fits (call_var L.calls q) _ e.inside e.is-var)

  -- the widths of a call entry's variable and of its arguments
  result-width : (q : ℕ) → q < call_count L.calls → result_width L.calls (widths_of_target L) q ≡ field_at L.target.rows (call_var L.calls q) 1
  result-width q h =
      let e = M.of-call q h in
      let r = call_var L.calls q in
      let (_, width) = node-var (row_at Target L.target.rows r) e.width e.is-var in
      sym (row-width L F A fits r e.inside) ∙ ap wid (row-value L F A fits r _ e.inside e.is-var) ∙ sym width

  arg-width : (q l : ℕ) → q < call_count L.calls → l < arg_count L.calls q
      → arg_width L.calls L.cargs (widths_of_target L) q l ≡ wid (v (call_arg L.calls L.cargs q l))
  arg-width q l h u =
      let (x, k, ex) = (M.of-call q h).args-image l u in
      sym (row-width L F A fits (call_arg L.calls L.cargs q l) (rw (← ex) k.1))

  -- an index has its array's index width
  index-width : (q : ℕ) → q < read_count L.reads → wid (v (read_index L.reads q)) ≡ (array_sorts L).index (read_array L.reads q)
  index-width q h =
      let e = M.of-read q h in
      let (x, k, ex) = e.index-image in
      row-width L F A fits (read_index L.reads q) (rw (← ex) k.1) ∙ e.index-width

  -- two constant index rows that differ have unequal numbers
  constants : (k l : ℕ) → k < read_count L.reads → l < read_count L.reads → read_array L.reads k ≡ read_array L.reads l
      → unequal_const L.target.bits (row_at Target L.target.rows (read_index L.reads k))
      (row_at Target L.target.rows (read_index L.reads l)) ≡ true
      → nat (v (read_index L.reads k)) ≡ nat (v (read_index L.reads l)) → ⊥
  unfolding unequal_const operate
  constants k l hk hl e u n =
      let (b, (d, _)) = all_true _ u in
      let (ck, cl) = both-const (row k) (row l) b in
      let w : get_or (row k) 2 0 ≡ get_or (row l) 2 0 =
      sym (ap wid (const k hk ck)) ∙ index-width k hk ∙ ap (array_sorts L).index e ∙ sym (index-width l hl) ∙ ap wid (const l hl cl) in
      unequal-numbers L.target.bits L.target.bits (row k) (row l) F.target-bits F.target-bits b (not-true _ d) w
      (sym (ap nat (const k hk ck)) ∙ n ∙ ap nat (const l hl cl))
    where
      row : ℕ → List ℕ
      row q = row_at Target L.target.rows (read_index L.reads q)

      const : (q : ℕ) → q < read_count L.reads → get_or (row q) 0 0 ≡ t_const
          → v (read_index L.reads q) ≡ val (get_or (row q) 2 0) (const_number L.target.bits (get_or (row q) 1 0) (get_or (row q) 2 0))
      const q h c =
          let (x, z, ex) = (M.of-read q h).index-image in
          row-value L F A fits (read_index L.reads q) _ (rw (← ex) z.1) (const-row (row q) c)

  module _ (true-roots : RootsTrue v L.troots) where
    -- entries with one key have one number
    reads-agree : (k l : ℕ) → k ≤ l → l < read_count L.reads → read_array L.reads k ≡ read_array L.reads l
        → nat (v (read_index L.reads k)) ≡ nat (v (read_index L.reads l)) → A (read_var L.reads k) ≡ A (read_var L.reads l)
    reads-agree k l h hl e n =
        ⊎_elim (λ z. rw z) (λ lt. ⊎_elim (λ u. absurd (constants k l hk hl e u n)) root (M.cong-read k l lt hl e)) (eq-or-lt_of_le h)
      where
        hk : k < read_count L.reads
        hk = omega arith

        same : v (read_index L.reads k) ≡ v (read_index L.reads l)
        same = val-ext _ _ (index-width k hk ∙ ap (array_sorts L).index e ∙ sym (index-width l hl)) n

        root : (q : ℕ) × (q < length L.troots) × ReadCong L k l (root_of L q) → A (read_var L.reads k) ≡ A (read_var L.reads l)
        root (q, hq, c) =
            sym (read_number k hk) ∙ ap nat (tells-out (cong-tells L F A fits _ _ 1 _ _ (root_of L q) c) (eqb-true _ _ (true-roots q hq))
            (λ x b. same)) ∙ read_number l hl

    calls-agree : (k l : ℕ) → k ≤ l → l < call_count L.calls → call_function L.calls k ≡ call_function L.calls l
        → field_at L.target.rows (call_var L.calls k) 1 ≡ field_at L.target.rows (call_var L.calls l) 1 → args k ≡ args l
        → A (call_var L.calls k) ≡ A (call_var L.calls l)
    unfolding same_function all
    calls-agree k l h hl e w s = ⊎_elim (λ z. rw z) (λ lt. root (M.cong-call k l lt hl one)) (eq-or-lt_of_le h)
      where
        hk : k < call_count L.calls
        hk = omega arith

        n : arg_count L.calls k ≡ arg_count L.calls l
        n = sym (tabulate-length _ (arg_count L.calls k)) ∙ ap length s ∙ tabulate-length _ (arg_count L.calls l)

        same : args k ≡ tabulate (λ x. v (call_arg L.calls L.cargs l x)) (arg_count L.calls k)
        same = s ∙ ap (λ (z : ℕ). tabulate (λ x. v (call_arg L.calls L.cargs l x)) z) (sym n)

        -- equal values have equal widths
        widths : (x : ℕ) → x < arg_count L.calls l
            → arg_width L.calls L.cargs (widths_of_target L) k x ≡ arg_width L.calls L.cargs (widths_of_target L) l x
        widths x u =
            let y : x < arg_count L.calls k = omega (arith, n) in
            arg-width k x hk y ∙ ap wid (tabulate-at _ _ (arg_count L.calls k) same x y) ∙ sym (arg-width l x hl u)

        one : one_function L k l ≡ true
        one = rw (eq-eqb _ _ e, eq-eqb _ _ n, eq-eqb _ _ (result-width k hk ∙ w ∙ sym (result-width l hl)), agree-yes _ _ _ widths)

        root : (q : ℕ) × (q < length L.troots) × CallCong L k l (root_of L q) → A (call_var L.calls k) ≡ A (call_var L.calls l)
        root (q, hq, c) =
            sym (call-number k hk)
            ∙ ap nat (tells-out (cong-tells L F A fits _ _ _ _ _ (root_of L q) c) (eqb-true _ _ (true-roots q hq))
            (tabulate-at _ _ (arg_count L.calls k) same))
            ∙ call-number l hl

    leaf-read : LeafRead L F M I A fits
    leaf-read q r a x z k ih = go (nat (sv L F M I A fits x)) (ap (λ (y : ℕ). nat (v y)) z.index_is ∙ sym (ap nat (ih x (omega arith) k)))
      where
        go : (y : ℕ) → nat (v (read_index L.reads q)) ≡ y → I.array a y ≡ A r
        go y n =
            let p = read_at L A a y in
            let f : p ≤ q = first-upto (read_hit L A a y) _ q (read-hits q a y z.array-is n) in
            let h : p < read_count L.reads = omega (arith, z.inside) in
            let (e, i) = read-hit p a y (first-hit (read_hit L A a y) _ h) in
            at-cell a y ∙ rw (lt-ltb _ _ h) (reads-agree p q f z.inside (e ∙ sym z.array-is) (i ∙ sym n) ∙ ap A z.variable-is)

    leaf-call : LeafCall L F M I A fits
    leaf-call q r f i w k xs z t below h ih = go (tabulate (λ l. sv L F M I A fits (xs l)) k) same
      where
        same : args q ≡ tabulate (λ l. sv L F M I A fits (xs l)) k
        same = ap (λ (n : ℕ). tabulate (λ l. v (call_arg L.calls L.cargs q l)) n) z.count-is ∙ tabulate-same _ _ k (λ l u. one l u)
          where
            one : (l : ℕ) → l < k → v (call_arg L.calls L.cargs q l) ≡ sv L F M I A fits (xs l)
            one l u =
                let e = z.args_are l u in
                let (_, y, ey) = (M.of-call q z.inside).args-image l (rw z.count-is u) in
                let j = below l u in
                ap v e ∙ sym (ih (xs l) j (omega arith, rw (← e, ← ey) y.1))

        go : (vs : List Val) → args q ≡ vs → I.function f w vs ≡ A r
        go vs n =
            let p = call_at L A f w vs in
            let width = (node-var (row_at Target L.target.rows (call_var L.calls q)) w (rw z.variable-is t)).1 in
            let l : p ≤ q = first-upto (call_hit L A f w vs) _ q (call-hits q f w vs z.function-is width n) in
            let b : p < call_count L.calls = omega (arith, z.inside) in
            let (e, y, s) = call-hit p f w vs (first-hit (call_hit L A f w vs) _ b) in
            let same = calls-agree p q l z.inside (e ∙ sym z.function-is) (y ∙ sym width) (s ∙ sym n) in
            at-result f w vs ∙ rw (lt-ltb _ _ b) (same ∙ ap A z.variable-is)

    pub backward-agree : (i : ℕ) → Agree L F M I A fits i
    backward-agree = agree-rows L F M I A fits (λ i w k e. variable-at L A J i ∙ rw (lt-ltb _ _ k.1)) leaf-read leaf-call

    pub backward-roots : RootsTrue (source_value (array_sorts L) L.source.rows L.source.bits L.source.side I) L.eroots
    backward-roots q h =
        let (k, l, e) = M.of-root q h in
        eq-eqb _ _ (ap nat (backward-agree (get_or L.eroots q 0) k) ∙ rw (← e) (eqb-true _ _ (true-roots q l)))

  -- it gives each variable, cell and result a number of its kind
  pub interpretation-fits : OfKind (array_sorts L) J L.source.rows → OfKind (array_sorts L) I L.source.rows
  interpretation-fits kinds =
      record {
        variables-fit = λ i w h e. rw (variable-at L A J i) (on-var i w h e _ refl);
        cells_fit = λ a x. rw (at-cell a x) (on-cell a x _ refl);
        results_fit = λ f w vs. rw (at-result f w vs) (on-result f w vs _ refl);
      }
    where
      on-var : (i w : ℕ) → i < source_rows L → S L i ≡ Var w → (b : Bool) → ltb (m L i) (target_rows L) ≡ b
          → cond b (A (m L i)) (J.variable i) < 2 ^ w
      on-var i w h e true q = let l = ltb-true _ _ q in fits (m L i) w l (of-var L M i w (h, l) e)
      on-var i w h e false q = kinds.variables-fit i w h e

      on-cell : (a x : ℕ) (b : Bool) → ltb (read_at L A a x) (read_count L.reads) ≡ b
          → cond b (A (read_var L.reads (read_at L A a x))) (J.array a x) < 2 ^ (array_sorts L).cell a
      on-cell a x true q =
          let l = ltb-true _ _ q in
          let e = M.of-read (read_at L A a x) l in
          let (z, _) = read-hit (read_at L A a x) a x (first-hit (read_hit L A a x) _ l) in
          subst (λ (c : ℕ). A (read_var L.reads (read_at L A a x)) < 2 ^ (array_sorts L).cell c) z (fits _ _ e.inside e.is-var)
      on-cell a x false q = kinds.cells_fit a x

      on-result : (f w : ℕ) (vs : List Val) (b : Bool) → ltb (call_at L A f w vs) (call_count L.calls) ≡ b
          → cond b (A (call_var L.calls (call_at L A f w vs))) (J.function f w vs) < 2 ^ w
      on-result f w vs true q =
          let l = ltb-true _ _ q in
          let p = call_at L A f w vs in
          let e = M.of-call p l in
          let (_, z, _) = call-hit p f w vs (first-hit (call_hit L A f w vs) _ l) in
          let y = (node-var (row_at Target L.target.rows (call_var L.calls p)) e.width e.is-var).1 in
          subst (λ (c : ℕ). A (call_var L.calls p) < 2 ^ c) (sym y ∙ z) (fits _ e.width e.inside e.is-var)
      on-result f w vs false q = kinds.results_fit f w vs
