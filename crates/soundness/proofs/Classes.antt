-- The classes through the rows: how one changes at each row, and what stays. Assumes nothing.
use Prim.Native.Nat.{ℕ, zero, suc, ◌+◌, ◌<◌, ◌≤◌}
use mathlib.Core.Path.{◌≡◌, refl, sym, ap, ◌∙◌, subst}
use mathlib.Core.Bool.{Bool, true, false, cond}
use mathlib.Core.Logic.{◌⊎◌, inr, ⊎_elim}
use mathlib.Core.List.{List}
use native.Mathlib.Nat.{eq-or-lt_of_le}
use native.Mathlib.Omega.{arith}
use borrow.Author.Tests.{eqb-true, ltb-true, lt-ltb, ne_eqb}
use lib.Dec.{eqb, ltb}
use lib.ListN.{length, get_or}
use Rattle.answers.specs.Answer.{Answer}
use Rattle.answers.specs.Answer.{Accepted, MapOutOfRange, VarClass, ChainMismatch, CallMismatch}
use Rattle.answers.specs.Answer.{is_accepted}
use Rattle.lists.specs.Trace.{trace}
use Rattle.lists.proofs.Choice.{no_way}
use Rattle.lists.proofs.Tests.{all_true, agree_at}
use Rattle.rows.specs.declared.Graph.TheVariants.{Target}
use Rattle.rows.specs.declared.Node.{Node}
use Rattle.rows.specs.declared.Node.TheVariants.{Var, Call}
use Rattle.rows.specs.Row.{MAX, row_at}
use Rattle.rows.specs.Tags.{either}
use Rattle.lowering.specs.declared.Walk.{Walk}
use Rattle.lowering.specs.declared.Walk.TheVariants.{RanOut, Met, Lost}
use Rattle.lowering.specs.Matching.{Noted, noted, mapped_arg, end_good, call_matches, var_matches, matched, node_answer, row_answer, end_classes}
use Rattle.lowering.specs.Matching.{node_classes, row_classes}
use Rattle.lowering.specs.Matching.{Kind, var, const, core, select, call, unknown, kind_of, kind_answer, kind_classes}
use Rattle.lowering.specs.Lowering.{Lowering, binding_of, target_rows}
use Rattle.lowering.specs.Check.{classes_of_tables, classes, offsets}
use Rattle.lowering.proofs.Classes.{classes-keep-length}
use Rattle.lowering.proofs.Images.{row_is_lem}
use Rattle.soundness.proofs.Facts.{S, T, m, Mapped, walk_of}
use Rattle.soundness.specs.Passed.{Reached, Passed}
use Rattle.rows.proofs.Tags.{one_of}
use Rattle.soundness.proofs.Marks.{set_holds}
use Rattle.soundness.proofs.Tables.{tables-length, ReadAt, CallAt, class-from, class-of-read, class-of-call}

-- what a class is of: 0 nothing or a variable, 2 a read, 3 a call
unfoldable pub kind : ℕ → ℕ
kind c = cond (either c 2 4) 2 (cond (either c 3 5) 3 0)

-- a read's or a call's class that is no longer 2 or 3 is 4 or 5
pub kind-end : (c : ℕ) → 0 < kind c → either c 2 3 ≡ false → either c 4 5 ≡ true
unfolding kind
kind-end c k h = go (eqb c 2) (eqb c 4) (eqb c 3) (eqb c 5) k h
  where
    go : (p q r s : Bool) → 0 < cond (cond p true q) 2 (cond (cond r true s) 3 0) → cond p true r ≡ false → cond q true s ≡ true
    go true q r s k h = no_way h
    go false q true s k h = no_way h
    go false true false s k h = refl
    go false false false true k h = refl
    go false false false false k h = absurd (omega arith)

-- an accepted match has passed its test
pub test_of : (b : Bool) (a : Answer) → is_accepted a ≡ false → is_accepted (matched b a) ≡ true → b ≡ true
test_of true a n e = refl
test_of false a n e = sym n ∙ e

module _ (L : Lowering) where
  -- the target variable that a row uses: its image, for a variable and a call; where its walk ran out, for a Select. Other rows use none, which is
  -- the number of target rows
  abbrev pub used_end : Walk → ℕ
  used_end (RanOut r) = r
  used_end (Met r v) = target_rows L
  used_end Lost = target_rows L

  abbrev pub used_by : ℕ → Kind → ℕ
  used_by r (var w) = r
  used_by r const = target_rows L
  used_by r (core node) = target_rows L
  used_by r (select a j s k) = used_end (walk_of L j k s r)
  used_by r (call f w s k) = r
  used_by r unknown = target_rows L

  abbrev pub used_at : ℕ → Node → ℕ
  used_at r node = used_by r (kind_of node)

  abbrev pub used : ℕ → ℕ
  used i = used_at (m L i) (S L i)

  -- mapped row i uses target row r; some row does
  abbrev pub Uses : ℕ → ℕ → Type 0
  Uses i r = Mapped L i × (used i ≡ r)

  abbrev pub Used : ℕ → Type 0
  Used r = (i : ℕ) × Uses i r

  -- the class of target row r, before and after a source row
  pub data Turns (r c d : ℕ) : Type 0 where
    stays : d ≡ c → Turns r c d
    to-var : c ≡ 0 → d ≡ 1 → Used r → Turns r c d
    to_read : kind c ≡ 2 → d ≡ 4 → Used r → Turns r c d
    to-call : kind c ≡ 3 → d ≡ 5 → Used r → Turns r c d

  -- what a turn keeps
  pub turn-kind : (r c d : ℕ) → Turns r c d → kind d ≡ kind c
  unfolding kind
  turn-kind r c d (stays e) = ap kind e
  turn-kind r c d (to-var e f x) = rw (e, f)
  turn-kind r c d (to_read k e x) = rw e (sym k)
  turn-kind r c d (to-call k e x) = rw e (sym k)

  pub turn_one : (r c d : ℕ) → Turns r c d → c ≡ 1 → d ≡ 1
  unfolding kind
  turn_one r c d (stays e) h = e ∙ h
  turn_one r c d (to-var e f x) h = f
  turn_one r c d (to_read k e x) h = let z : ◌≡◌ {A = ℕ} 0 2 = rw h at k in absurd (omega arith)
  turn_one r c d (to-call k e x) h = let z : ◌≡◌ {A = ℕ} 0 3 = rw h at k in absurd (omega arith)

  -- a class that has left 2 and 3 is that of a row in use
  pub turn-live : (r c d : ℕ) → Turns r c d → (either c 2 3 ≡ false → Used r) → either d 2 3 ≡ false → Used r
  turn-live r c d (stays e) f h = f (rw e at h)
  turn-live r c d (to-var e g x) f h = x
  turn-live r c d (to_read k e x) f h = x
  turn-live r c d (to-call k e x) f h = x

  -- so is a class that has left 0 and 2 and 3
  pub turn-used : (r c d : ℕ) → Turns r c d → (c ≡ 0) ⊎ (either c 2 3 ≡ false → Used r) → (d ≡ 0) ⊎ (either d 2 3 ≡ false → Used r)
  turn-used r c d (stays e) f = rw e f
  turn-used r c d (to-var e g x) f = inr (λ h. x)
  turn-used r c d (to_read k e x) f = inr (λ h. x)
  turn-used r c d (to-call k e x) f = inr (λ h. x)

  -- what is noted before row i; the answer and the classes of a node there
  abbrev pub noted_at : ℕ → Noted
  noted_at i = noted (classes L i) (offsets L)

  abbrev pub answer_at : ℕ → Node → Answer
  answer_at i node = node_answer (binding_of L) (noted_at i) i (m L i) node

  abbrev pub classes_at : ℕ → Node → List ℕ
  classes_at i node = node_classes (binding_of L) (classes L i) (m L i) node

  -- what the tests of a variable, of a walk that ran out and of a call say
  pub var-passed : (i w : ℕ) → is_accepted (answer_at i (Var w)) ≡ true → (T L (m L i) ≡ Var w) × (get_or (classes L i) (m L i) 0 ≡ 0)
  unfolding var_matches
  var-passed i w e =
      let (a, (b, _)) = all_true _ (test_of _ (VarClass i) refl e) in
      (row_is_lem (row_at Target L.target.rows (m L i)) (Var w) tt a, eqb-true _ _ b)

  abbrev pub end_of : ℕ → ℕ → ℕ → Walk → Bool
  end_of i a j o = end_good L.map L.reads L.target.rows (noted_at i) a j o

  pub ran_out : (i a j r : ℕ) → end_of i a j (RanOut r) ≡ true
      → (r < target_rows L) × (kind (get_or (classes L i) r 0) ≡ 2) × (get_or L.reads (get_or (offsets L) r 0 + 1) 0 ≡ a)
      × (get_or L.reads (get_or (offsets L) r 0 + 2) 0 ≡ m L j)
  unfolding end_good kind
  ran_out i a j r e =
      let (u, (c, (_, (x, (y, _))))) = all_true _ e in
      (ltb-true _ _ u, one_of (λ c. kind c ≡ 2) (get_or (classes L i) r 0) 2 4 refl refl c, eqb-true _ _ x, eqb-true _ _ y)

  -- the entry at a row's offset, for a function and k arguments
  pub record CallHere (r f k : ℕ) (xs : ℕ → ℕ) : Type 0 where
    pub function-here : get_or L.calls (get_or (offsets L) r 0 + 1) 0 ≡ f
    pub count-here : get_or L.calls (get_or (offsets L) r 0 + 3) 0 ≡ k
    pub args-here : (l : ℕ) → l < k → xs l ≡ get_or L.cargs (get_or L.calls (get_or (offsets L) r 0 + 2) 0 + l) 0

  pub call-passed : (i f w s k : ℕ) → is_accepted (answer_at i (Call f w s k)) ≡ true
      → (T L (m L i) ≡ Var w) × (kind (get_or (classes L i) (m L i) 0) ≡ 3) × CallHere (m L i) f k (mapped_arg L.map L.source.side s)
  unfolding call_matches kind
  call-passed i f w s k e =
      let (a, (c, (_, (x, (y, (_, (z, _))))))) = all_true _ (test_of _ (CallMismatch i) refl e) in (
        row_is_lem (row_at Target L.target.rows (m L i)) (Var w) tt a,
        one_of (λ c. kind c ≡ 3) (get_or (classes L i) (m L i) 0) 3 5 refl refl c,
        record { function-here = eqb-true _ _ x; count-here = eqb-true _ _ y; args-here = agree_at _ _ k z },
      )

module _ (L : Lowering) {N : ℕ} (E : Reached L N) where
  pub classes-length : (n : ℕ) → length (classes L n) ≡ target_rows L
  classes-length n = classes-keep-length L n ∙ tables-length L E

  -- how the classes change at a mapped row
  turn_end : (i a j : ℕ) → Mapped L i → (o : Walk) → used L i ≡ used_end L o → end_of L i a j o ≡ true → (r : ℕ)
      → Turns L r (get_or (classes L i) r 0) (get_or (end_classes (classes L i) o) r 0)
  turn_end i a j x (RanOut p) y e r =
      let (u, c, _, _) = ran_out L i a j p e in
      set_holds (Turns L r (get_or (classes L i) r 0)) (classes L i) p 4 r (rw (classes-length i) u) (stays refl)
      (λ q. to_read (rw q at c) refl (i, (x, y ∙ q)))
  turn_end i a j x (Met p v) y e r = stays refl
  turn_end i a j x Lost y e r = stays refl

  turn-kinds : (i : ℕ) → Mapped L i → (kind : Kind) → kind_of (S L i) ≡ kind
      → is_accepted (kind_answer (binding_of L) (noted_at L i) i (m L i) kind) ≡ true
      → (r : ℕ) → Turns L r (get_or (classes L i) r 0) (get_or (kind_classes (binding_of L) (classes L i) (m L i) kind) r 0)
  turn-kinds i (h, u) (var w) n e r =
      set_holds (Turns L r (get_or (classes L i) r 0)) (classes L i) (m L i) 1 r (rw (classes-length i) u) (stays refl)
      (λ q. to-var (rw q at (var-passed L i w e).1) refl (i, ((h, u), ap (used_by L (m L i)) n ∙ q)))
  turn-kinds i x (select a j s k) n e r =
      turn_end i a j x (walk_of L j k s (m L i)) (ap (used_by L (m L i)) n) (test_of _ (ChainMismatch i) refl e) r
  turn-kinds i (h, u) (call f w s k) n e r =
      let (_, c, _) = call-passed L i f w s k e in
      set_holds (Turns L r (get_or (classes L i) r 0)) (classes L i) (m L i) 5 r (rw (classes-length i) u) (stays refl)
      (λ q. to-call (rw q at c) refl (i, ((h, u), ap (used_by L (m L i)) n ∙ q)))
  turn-kinds i x const n e r = stays refl
  turn-kinds i x (core node) n e r = stays refl
  turn-kinds i x unknown n e r = stays refl

  -- how they change at any row
  pub turn : (i : ℕ) → i < N → (r : ℕ) → Turns L r (get_or (classes L i) r 0) (get_or (classes L (suc i)) r 0)
  unfolding trace row_classes row_answer
  turn i h r = go (eqb (m L i) MAX) (E.rows i h)
    where
      mapped : (b : Bool) → ltb (m L i) (target_rows L) ≡ b → is_accepted (cond b (answer_at L i (S L i)) (MapOutOfRange i)) ≡ true
          → Turns L r (get_or (classes L i) r 0) (get_or (classes_at L i (S L i)) r 0)
      mapped true u e = turn-kinds i (omega (arith, E.inside), ltb-true (m L i) (target_rows L) u) (kind_of (S L i)) refl e r
      mapped false u e = no_way (sym e)

      go : (b : Bool) → is_accepted (cond b Accepted (cond (ltb (m L i) (target_rows L)) (answer_at L i (S L i)) (MapOutOfRange i))) ≡ true
          → Turns L r (get_or (classes L i) r 0) (get_or (cond b (classes L i) (classes_at L i (S L i))) r 0)
      go true e = stays refl
      go false e = mapped (ltb (m L i) (target_rows L)) refl e

  -- what turns keep and holds of a class before row k, holds before row n
  pub rows-hold : (Q : ℕ → Type 0) (r k n : ℕ) → ((c d : ℕ) → Turns L r c d → Q c → Q d) → k ≤ n → n ≤ N → Q (get_or (classes L k) r 0)
      → Q (get_or (classes L n) r 0)
  rows-hold Q r k zero t h u x = let e : k ≡ 0 = omega arith in subst (λ (z : ℕ). Q (get_or (classes L z) r 0)) e x
  rows-hold Q r k (suc n) t h u x =
      ⊎_elim (λ (e : k ≡ suc n). subst (λ (z : ℕ). Q (get_or (classes L z) r 0)) e x)
      (λ v. t _ _ (turn n u r) (rows-hold Q r k n t (omega arith) (omega arith) x)) (eq-or-lt_of_le h)

  -- a class has the kind that the tables gave it
  pub kind-stays : (r n : ℕ) → n ≤ N → kind (get_or (classes L n) r 0) ≡ kind (get_or (classes_of_tables L) r 0)
  unfolding trace
  kind-stays r n h =
      rows-hold (λ c. kind c ≡ kind (get_or (classes_of_tables L) r 0)) r 0 n (λ c d t q. turn-kind L r c d t ∙ q) (omega arith) h refl

  -- a target row in a read's class has a read's entry, one in a call's class a call's
  pub read_at_lem : (r n : ℕ) → n ≤ N → r < target_rows L → kind (get_or (classes L n) r 0) ≡ 2 → ReadAt L r
  unfolding kind
  read_at_lem r n h u e =
      let k : kind (get_or (classes_of_tables L) r 0) ≡ 2 = sym (kind-stays r n h) ∙ e in
      ⊎_elim (λ q. let z : ◌≡◌ {A = ℕ} 0 2 = rw q at k in absurd (omega arith)) (⊎_elim (λ x. x) (λ x. go k x)) (class-from L E r u)
    where
      go : kind (get_or (classes_of_tables L) r 0) ≡ 2 → CallAt L r → ReadAt L r
      go k (q, l, v) = let z : ◌≡◌ {A = ℕ} 3 2 = rw (← v, class-of-call L E q l) at k in absurd (omega arith)

  pub call_at : (r n : ℕ) → n ≤ N → r < target_rows L → kind (get_or (classes L n) r 0) ≡ 3 → CallAt L r
  unfolding kind
  call_at r n h u e =
      let k : kind (get_or (classes_of_tables L) r 0) ≡ 3 = sym (kind-stays r n h) ∙ e in
      ⊎_elim (λ q. let z : ◌≡◌ {A = ℕ} 0 3 = rw q at k in absurd (omega arith)) (⊎_elim (λ x. go k x) (λ x. x)) (class-from L E r u)
    where
      go : kind (get_or (classes_of_tables L) r 0) ≡ 3 → ReadAt L r → CallAt L r
      go k (q, l, v) = let z : ◌≡◌ {A = ℕ} 2 3 = rw (← v, class-of-read L E q l) at k in absurd (omega arith)

module _ (L : Lowering) (P : Passed L) (small : target_rows L ≤ MAX) where
  -- a mapped row's answer is its node's
  pub mapped-passed : (i : ℕ) → Mapped L i → is_accepted (answer_at L i (S L i)) ≡ true
  unfolding row_answer
  mapped-passed i (h, u) = rw (ne_eqb (m L i) MAX (λ z. omega arith), lt-ltb (m L i) (target_rows L) u) at (P.reached.rows i h)
