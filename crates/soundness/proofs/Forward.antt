-- Forward: the assignment that belongs to an interpretation makes the target's roots true where that makes the source's. Assumes nothing.
use Prim.Native.Nat.{ℕ, ◌<◌, ◌≤◌, ◌^◌}
use mathlib.Core.Path.{◌≡◌, refl, sym, ap, ◌∙◌, subst}
use mathlib.Core.Bool.{Bool, true, false, cond}
use mathlib.Core.Logic.{⊎_elim}
use mathlib.Core.List.{List, [], ◌∷◌}
use native.Mathlib.Omega.{arith}
use borrow.Author.Tests.{eq-eqb, eqb-true, lt-ltb, ltb-true}
use lib.Dec.{eqb, ltb}
use lib.ListN.{length, get_or}
use Rattle.lists.specs.Tests.{all}
use Rattle.lists.specs.Trace.{tabulate}
use Rattle.lists.proofs.First.{first-hit, first-upto, first-only, first-nowhere}
use Rattle.lists.proofs.Tests.{all_true, tabulate-same}
use Rattle.rows.specs.declared.Graph.TheVariants.{Source, Target}
use Rattle.rows.specs.declared.Node.TheVariants.{Var}
use Rattle.rows.specs.Row.{row_at}
use Rattle.rows.specs.Tags.{t_var}
use Rattle.value.specs.Val.{Val, val, wid, nat}
use Rattle.value.specs.Graph.{Assigns}
use Rattle.value.proofs.Tagged.{node-var}
use Rattle.meaning.specs.Meaning.{Interpretation, OfKind, RootsTrue, source_value}
use Rattle.lowering.specs.Images.{map_at, field_at}
use Rattle.lowering.specs.Tables.{read_count, read_var, read_array, read_index, call_count, call_var, call_function, arg_count, call_arg}
use Rattle.lowering.specs.Tables.{same_function}
use Rattle.lowering.specs.Lowering.{array_sorts, Lowering, source_rows, target_rows}
use Rattle.soundness.specs.Transfer.{origin, is_origin, var_origin, read_of, call_of, origin_value, read_cell, call_result, assignment}
use Rattle.soundness.proofs.Facts.{S, T, m, Mapped, one_function, Formed, Owner, by-var, by_read, by_call, Owns, ReadPair, CallPair, Matched}
use Rattle.soundness.proofs.Facts.{root_of}
use Rattle.soundness.proofs.Images.{var-row}
use Rattle.soundness.proofs.Tells.{tv, row-value, cong-tells, cong-width, tells-in}
use Rattle.soundness.proofs.Agree.{sv, Agree, LeafRead, LeafCall, agree-rows}

-- calls of one function have one number and one count
pub same-function : (L : Lowering) (k l : ℕ) → one_function L k l ≡ true
    → (call_function L.calls k ≡ call_function L.calls l) × (arg_count L.calls k ≡ arg_count L.calls l)
unfolding same_function
same-function L k l e = let (a, (b, _)) = all_true _ e in (eqb-true _ _ a, eqb-true _ _ b)

-- a variable's image is one of its width
pub of-var : (L : Lowering) → Matched L → (i w : ℕ) → Mapped L i → S L i ≡ Var w → T L (m L i) ≡ Var w
of-var L M i w k e = rw e at (M.of_row i k)

-- the kind of an owner and its number
kind : Owner → ℕ
kind (by-var i) = 0
kind (by_read q) = 1
kind (by_call q) = 2

number : Owner → ℕ
number (by-var i) = i
number (by_read q) = q
number (by_call q) = q

module _ (L : Lowering) (F : Formed L) (M : Matched L) (I : Interpretation) (given : ℕ → ℕ) where
  abbrev A : ℕ → ℕ
  A r = assignment L I given r

  -- the owner of a variable gives its number
  at_read : (q : ℕ) → q < read_count L.reads → A (read_var L.reads q) ≡ read_cell L I q
  unfolding assignment number
  at_read q h = rw (e, lt-ltb _ _ h)
    where
      e : read_of L (read_var L.reads q) ≡ q
      e =
          first-only (λ p. eqb (read_var L.reads p) (read_var L.reads q)) (read_count L.reads) q h
          (eq-eqb (read_var L.reads q) (read_var L.reads q) refl)
          (λ p l t. ap number (M.one-owner (by_read p) (by_read q) (read_var L.reads q) (l, eqb-true _ _ t) (h, refl)))

  -- no entry is found where none owns the row
  no_read : (r : ℕ) → ((q : ℕ) → Owns L (by_read q) r → ⊥) → ltb (read_of L r) (read_count L.reads) ≡ false
  no_read r none = first-nowhere (λ q. eqb (read_var L.reads q) r) (read_count L.reads) (λ q l t. none q (l, eqb-true _ _ t))

  no_call : (r : ℕ) → ((q : ℕ) → Owns L (by_call q) r → ⊥) → ltb (call_of L r) (call_count L.calls) ≡ false
  no_call r none = first-nowhere (λ q. eqb (call_var L.calls q) r) (call_count L.calls) (λ q l t. none q (l, eqb-true _ _ t))

  at_call : (q w : ℕ) → q < call_count L.calls → T L (call_var L.calls q) ≡ Var w → A (call_var L.calls q) ≡ call_result L I w q
  unfolding assignment number kind
  at_call q w h v =
      rw (no_read (call_var L.calls q) other, e, lt-ltb _ _ h)
      (ap (λ (z : ℕ). call_result L I z q) (node-var (row_at Target L.target.rows (call_var L.calls q)) w v).1)
    where
      other : (p : ℕ) → Owns L (by_read p) (call_var L.calls q) → ⊥
      other p x = let z : kind (by_read p) ≡ 2 = ap kind (M.one-owner (by_read p) (by_call q) (call_var L.calls q) x (h, refl)) in omega arith

      e : call_of L (call_var L.calls q) ≡ q
      e =
          first-only (λ p. eqb (call_var L.calls p) (call_var L.calls q)) (call_count L.calls) q h
          (eq-eqb (call_var L.calls q) (call_var L.calls q) refl)
          (λ p l t. ap number (M.one-owner (by_call p) (by_call q) (call_var L.calls q) (l, eqb-true _ _ t) (h, refl)))

  -- an origin of r is a variable with image r
  is-origin : (r i : ℕ) → is_origin L r i ≡ true → (S L i ≡ Var (get_or (row_at Source L.source.rows i) 1 0)) × (m L i ≡ r)
  is-origin r i e =
      let (a, (b, _)) = all_true (eqb (get_or (row_at Source L.source.rows i) 0 0) t_var ∷ eqb (map_at L.map i) r ∷ []) e in
      (var-row (row_at Source L.source.rows i) (eqb-true _ _ a), eqb-true _ _ b)

  pub at-var : (i w : ℕ) → Mapped L i → S L i ≡ Var w → A (m L i) ≡ I.variable i
  unfolding assignment number kind all
  at-var i w k v =
      rw (
        no_read (m L i) (λ p x. other (by_read p) x (omega arith)),
        no_call (m L i) (λ p x. other (by_call p) x (omega arith)),
        e,
        lt-ltb _ _ k.0,
      )
    where
      owns : Mapped L i × ((z : ℕ) × (S L i ≡ Var z)) × (m L i ≡ m L i)
      owns = (k, (w, v), refl)

      other : (o : Owner) → Owns L o (m L i) → 0 < kind o → ⊥
      other o x h = let z : kind o ≡ 0 = ap kind (M.one-owner o (by-var i) (m L i) x owns) in omega arith

      e : var_origin L (m L i) ≡ i
      e = first-only (is_origin L (m L i)) (source_rows L) i k.0
          (rw ((node-var (row_at Source L.source.rows i) w v).0, eq-eqb (m L i) (m L i) refl))
          (λ j l t. let (a, b) = is-origin (m L i) j t in ap number (M.one-owner (by-var j) (by-var i) (m L i) ((l, rw b k.1), (_, a), b) owns))

  -- a row that nobody owns has the number given
  pub at-free : (r : ℕ) → r < target_rows L → ((o : Owner) → Owns L o r → ⊥) → A r ≡ given r
  unfolding assignment
  at-free r h none = rw (no_read r (λ q. none (by_read q)), no_call r (λ q. none (by_call q)), no-var)
    where
      no-var : ltb (var_origin L r) (source_rows L) ≡ false
      no-var = first-nowhere (is_origin L r) (source_rows L)
          (λ j l t. let (a, b) = is-origin r j t in none (by-var j) ((l, rw b h), (_, a), b))

  -- it gives each variable a number of its width
  pub assignment-fits : OfKind (array_sorts L) I L.source.rows → Assigns given L.target.rows → Assigns A L.target.rows
  unfolding assignment read_cell call_result
  assignment-fits kinds fits r w h v = go _ refl _ refl _ refl
    where
      of_width : (z : ℕ) → T L r ≡ Var z → z ≡ w
      of_width z e = cc

      go : (b : Bool) → ltb (read_of L r) (read_count L.reads) ≡ b → (c : Bool) → ltb (call_of L r) (call_count L.calls) ≡ c
          → (d : Bool) → ltb (var_origin L r) (source_rows L) ≡ d
          → cond b (read_cell L I (read_of L r)) (cond c (call_result L I (field_at L.target.rows r 1) (call_of L r))
          (cond d (I.variable (var_origin L r)) (given r))) < 2 ^ w
      go true eb c ec d ed =
          let l = ltb-true _ _ eb in
          let e : read_var L.reads (read_of L r) ≡ r = eqb-true _ _ (first-hit (λ q. eqb (read_var L.reads q) r) _ l) in
          subst (λ (z : ℕ). read_cell L I (read_of L r) < 2 ^ z) (of_width _ (rw e at (M.of-read (read_of L r) l).is-var))
          (kinds.cells_fit (read_array L.reads (read_of L r)) _)
      go false eb true ec d ed = rw (node-var (row_at Target L.target.rows r) w v).1 (kinds.results_fit _ w _)
      go false eb false ec true ed =
          let l = ltb-true _ _ ed in
          let (e, k) = is-origin r (var_origin L r) (first-hit (is_origin L r) _ l) in
          let t : T L (m L (var_origin L r)) ≡ Var (get_or (row_at Source L.source.rows (var_origin L r)) 1 0) =
          of-var L M (var_origin L r) _ (l, rw k h) e in
          subst (λ (z : ℕ). I.variable (var_origin L r) < 2 ^ z) (of_width _ (rw k at t)) (kinds.variables-fit (var_origin L r) _ l e)
      go false eb false ec false ed = fits r w h v

  module _ (fits : Assigns A L.target.rows) where
    -- the source row that an image stands for has its value, where all rows up to a mapped row agree
    origin-value : (x y : ℕ) → Mapped L x → y ≡ m L x → ((j : ℕ) → j ≤ x → Agree L F M I A fits j) → origin_value L I y ≡ tv L F A fits y
    origin-value x y k e ih =
        let p : ℕ → Bool = λ i. eqb (m L i) y in
        let l : origin L y ≤ x = first-upto p (source_rows L) x (eq-eqb _ _ (sym e)) in
        let h : m L (origin L y) ≡ y = eqb-true _ _ (first-hit p (source_rows L) (omega (arith, k.0))) in
        ih (origin L y) l (omega (arith, k.0), rw (h, e) k.1) ∙ ap (tv L F A fits) h

    leaf-read : LeafRead L F M I A fits
    unfolding read_cell
    leaf-read q r a x z k ih =
        let v : nat (sv L F M I A fits x) ≡ nat (origin_value L I (read_index L.reads q)) =
        ap nat (ih x (omega arith) k ∙ ap (tv L F A fits) (sym z.index_is)
        ∙ sym (origin-value x (read_index L.reads q) k z.index_is ih)) in
        rw (← z.variable-is, ← z.array-is, v) (sym (at_read q z.inside))

    leaf-call : LeafCall L F M I A fits
    unfolding call_result
    leaf-call q r f i w k xs z v below h ih =
        let at : ℕ → ℕ = λ n. I.function (call_function L.calls q) w (tabulate (λ l. origin_value L I (call_arg L.calls L.cargs q l)) n) in
        let c : A (call_var L.calls q) ≡ at k = at_call q w z.inside (rw z.variable-is v) ∙ ap at z.count-is in
        rw (← z.variable-is, ← z.function-is) (ap (I.function (call_function L.calls q) w) (tabulate-same _ _ k same) ∙ sym c)
      where
        same : (l : ℕ) → l < k → sv L F M I A fits (xs l) ≡ origin_value L I (call_arg L.calls L.cargs q l)
        same l u =
            let e = z.args_are l u in
            let j = below l u in
            let t = M.of-call q z.inside in
            let (_, y, ey) = t.args-image l (rw z.count-is u) in
            let mx : Mapped L (xs l) = (omega arith, rw (← e, ← ey) y.1) in
            ih (xs l) j mx ∙ ap (tv L F A fits) (sym e) ∙ sym (origin-value (xs l) (call_arg L.calls L.cargs q l) mx e
            (λ n b. ih n (omega arith)))

    pub forward-agree : (i : ℕ) → Agree L F M I A fits i
    forward-agree = agree-rows L F M I A fits (λ i w k e. sym (at-var i w k e)) leaf-read leaf-call

    -- an entry's variable: its array at its index's value, its function at its arguments' values
    read-value : (q : ℕ) → q < read_count L.reads
        → tv L F A fits (read_var L.reads q) ≡ val ((array_sorts L).cell (read_array L.reads q))
        (I.array (read_array L.reads q) (nat (tv L F A fits (read_index L.reads q))))
    unfolding read_cell
    read-value q h =
        let e = M.of-read q h in
        let (x, k, ex) = e.index-image in
        row-value L F A fits (read_var L.reads q) _ e.inside e.is-var
        ∙ ap (val ((array_sorts L).cell (read_array L.reads q)))
        (at_read q h ∙ ap (λ (v : Val). I.array (read_array L.reads q) (nat v))
        (origin-value x (read_index L.reads q) k (sym ex) (λ j l. forward-agree j)))

    call-value : (q : ℕ) (h : q < call_count L.calls)
        → tv L F A fits (call_var L.calls q)
        ≡ val (M.of-call q h).width (I.function (call_function L.calls q) (M.of-call q h).width
        (tabulate (λ l. tv L F A fits (call_arg L.calls L.cargs q l)) (arg_count L.calls q)))
    unfolding call_result
    call-value q h =
        let e = M.of-call q h in
        row-value L F A fits (call_var L.calls q) _ e.inside e.is-var
        ∙ ap (val e.width)
        (at_call q e.width h e.is-var
        ∙ ap (I.function (call_function L.calls q) e.width)
        (tabulate-same _ _ (arg_count L.calls q) (λ l u. let (x, k, ex) = e.args-image l u in origin-value x (call_arg L.calls L.cargs q l) k
        (sym ex) (λ j b. forward-agree j))))

    -- the target's roots: images of true roots, and congruence roots
    pub forward-roots : RootsTrue (source_value (array_sorts L) L.source.rows L.source.bits L.source.side I) L.eroots
        → RootsTrue (tv L F A fits) L.troots
    forward-roots true-roots q h = eq-eqb _ _ (⊎_elim image (⊎_elim reads calls) (M.only q h))
      where
        image : q < length L.eroots → nat (tv L F A fits (root_of L q)) ≡ 1
        image l =
            let (k, _, e) = M.of-root q l in
            rw e (ap nat (sym (forward-agree (get_or L.eroots q 0) k)) ∙ eqb-true _ _ (true-roots q l))

        reads : ReadPair L (root_of L q) → nat (tv L F A fits (root_of L q)) ≡ 1
        reads (k, l, hk, hl, e, c) =
            tells-in (cong-tells L F A fits _ _ 1 (read_var L.reads k) (read_var L.reads l) (root_of L q) c)
            (λ s. read-value k hk
            ∙ (ap (λ (v : Val). val ((array_sorts L).cell (read_array L.reads k)) (I.array (read_array L.reads k) (nat v))) (s 0 (omega arith)))
            ∙ ap (λ (a : ℕ). val ((array_sorts L).cell a) (I.array a (nat (tv L F A fits (read_index L.reads l))))) e
            ∙ sym (read-value l hl))

        calls : CallPair L (root_of L q) → nat (tv L F A fits (root_of L q)) ≡ 1
        calls (k, l, hk, hl, e, c) =
            let (f, n) = same-function L k l e in
            let vk = call-value k hk in
            let vl = call-value l hl in
            let w : (M.of-call k hk).width ≡ (M.of-call l hl).width = ap wid (sym vk) ∙ cong-width L F A fits _ _ _ _ _ (root_of L q) c ∙ ap wid vl in
            let args : ℕ → List Val = λ z. tabulate (λ x. tv L F A fits (call_arg L.calls L.cargs l x)) z in
            tells-in (cong-tells L F A fits _ _ _ _ _ (root_of L q) c)
            (λ s. vk
            ∙ ap (λ (vs : List Val). val (M.of-call k hk).width (I.function (call_function L.calls k) (M.of-call k hk).width vs))
            (tabulate-same _ _ (arg_count L.calls k) s ∙ ap args n)
            ∙ ap (λ (z : ℕ). val z (I.function (call_function L.calls k) z (args (arg_count L.calls l)))) w
            ∙ ap (λ (z : ℕ). val (M.of-call l hl).width (I.function z (M.of-call l hl).width (args (arg_count L.calls l)))) f
            ∙ sym vl)
