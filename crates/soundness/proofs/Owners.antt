-- What the entries are, that a target variable is one row's or one entry's, and that some row uses it. Assumes nothing.
use Prim.Native.Nat.{ℕ, suc, ◌+◌, ◌*◌, ◌<◌, ◌≤◌}
use mathlib.Core.Path.{◌≡◌, refl, sym, ap, ◌∙◌, subst}
use mathlib.Core.Bool.{true, false}
use mathlib.Core.Logic.{◌⊎◌, inl, inr, ⊎_elim}
use native.Mathlib.Omega.{arith}
use borrow.Author.Tests.{ne_eqb}
use lib.ListN.{length, get_or}
use lib.Seq.{get_or-set_same}
use Rattle.answers.specs.Answer.{is_accepted}
use Rattle.lists.specs.Trace.{trace}
use Rattle.lists.proofs.Choice.{no_way}
use Rattle.rows.specs.declared.Node.{Node}
use Rattle.rows.specs.declared.Node.TheVariants.{Var, Const, Un, Bin, Extract, Extend, Ite, Select, Call, Unknown}
use Rattle.rows.specs.Tags.{either}
use Rattle.wf.specs.Promise.{RowFormed}
use Rattle.lowering.specs.declared.Walk.{Walk}
use Rattle.lowering.specs.declared.Walk.TheVariants.{RanOut, Met, Lost}
use Rattle.rows.specs.Row.{MAX}
use Rattle.lowering.specs.Tables.{read_count, read_var, read_index, call_count, call_var, arg_count, call_arg}
use Rattle.lowering.specs.Matching.{row_classes}
use Rattle.lowering.specs.Lowering.{array_sorts, Lowering, source_rows, target_rows}
use Rattle.lowering.specs.Check.{widths_of_source, classes_of_tables, classes, offsets}
use Rattle.soundness.proofs.Facts.{S, m, Mapped, Image, Formed, Ends, walk_of, Found, ReadEntry, CallEntry, Owner, by-var, by_read, by_call}
use Rattle.soundness.proofs.Facts.{Owns}
use Rattle.soundness.specs.Passed.{Passed}
use Rattle.soundness.proofs.Marks.{in-no-order}
use Rattle.soundness.proofs.Tables.{ReadAt, CallAt, class-from, read-facts, call_facts, read-index}
use Rattle.soundness.proofs.Tables.{class-of-read, offset-of-read, class-of-call, offset-of-call}
use Rattle.soundness.proofs.Classes.{kind, kind-end, used_end, used_at, Uses, Used, turn_one, turn-live, turn-used, answer_at, classes_at}
use Rattle.soundness.proofs.Classes.{var-passed, classes-length, mapped-passed, rows-hold, kind-stays}
use Rattle.soundness.proofs.Found.{of_row}

module _ (L : Lowering) where
  -- a row before row i is sent to y
  abbrev pub SentBefore : ℕ → ℕ → Type 0
  SentBefore i y = (j : ℕ) × (j < i) × (m L j ≡ y)

  -- row i stands behind an owner: it is the variable; the read's index, the call's arguments come from rows before it
  abbrev pub Behind : Owner → ℕ → Type 0
  Behind (by-var x) i = x ≡ i
  Behind (by_read q) i = SentBefore i (read_index L.reads q)
  Behind (by_call q) i = (l : ℕ) → l < arg_count L.calls q → SentBefore i (call_arg L.calls L.cargs q l)

  abbrev pub OwnedBy : ℕ → ℕ → Type 0
  OwnedBy i r = (o : Owner) × Owns L o r × Behind o i

module _ (L : Lowering) (P : Passed L) (F : Formed L) (small : target_rows L ≤ MAX) where
  -- a mapped variable's image is free before its row and in class 1 after it
  var-free : (i w : ℕ) → Mapped L i → S L i ≡ Var w → get_or (classes L i) (m L i) 0 ≡ 0
  var-free i w x e = (var-passed L i w (subst (λ (n : Node). is_accepted (answer_at L i n) ≡ true) e (mapped-passed L P small i x))).1

  var-after : (i w : ℕ) → Mapped L i → S L i ≡ Var w → get_or (classes L (suc i)) (m L i) 0 ≡ 1
  unfolding trace row_classes
  var-after i w (h, u) e =
      rw (ne_eqb (m L i) MAX (λ z. omega arith))
      (ap (λ (n : Node). get_or (classes_at L i n) (m L i) 0) e ∙ get_or-set_same (classes L i) (m L i) 1 0 (rw (classes-length L P.reached i) u))

  -- and stays there
  var-kept : (i w n : ℕ) → i < n → n ≤ source_rows L → Mapped L i → S L i ≡ Var w → get_or (classes L n) (m L i) 0 ≡ 1
  var-kept i w n h u x e = rows-hold L P.reached (λ c. c ≡ 1) (m L i) (suc i) n (turn_one L (m L i)) h u (var-after i w x e)

  -- two mapped variables have two images
  vars-apart : (i j w v : ℕ) → i < j → Mapped L i → Mapped L j → S L i ≡ Var w → S L j ≡ Var v → m L i ≡ m L j → ⊥
  vars-apart i j w v h x y e f q =
      let one = var-kept i w j h (omega (arith, y.0)) x e in
      let none : get_or (classes L j) (m L i) 0 ≡ 0 = rw q (var-free j v y f) in
      omega arith

  -- the kind of class that an owner's variable has from the tables
  abbrev kind_of : Owner → ℕ
  kind_of (by-var i) = 0
  kind_of (by_read q) = 2
  kind_of (by_call q) = 3

  owner-kind : (o : Owner) (r : ℕ) → Owns L o r → kind (get_or (classes_of_tables L) r 0) ≡ kind_of o
  unfolding kind
  owner-kind (by-var i) r (x, (w, e), q) =
      rw (← q) (sym (kind-stays L P.reached (m L i) i (omega (arith, x.0))) ∙ ap kind (var-free i w x e))
  owner-kind (by_read q) r (h, v) = rw (← v) (ap kind (class-of-read L P.reached q h))
  owner-kind (by_call q) r (h, v) = rw (← v) (ap kind (class-of-call L P.reached q h))

  -- what has an owner is not of class 0 in the end
  pub owned-class : (o : Owner) (r : ℕ) → Owns L o r → get_or (classes L (source_rows L)) r 0 ≡ 0 → ⊥
  unfolding kind
  owned-class o r x z = go o x (sym (ap kind z) ∙ kind-stays L P.reached r (source_rows L) (omega arith) ∙ owner-kind o r x)
    where
      go : (o : Owner) → Owns L o r → 0 ≡ kind_of o → ⊥
      go (by-var i) (x, (w, e), q) k = let one = rw q at (var-kept i w (source_rows L) x.0 (omega arith) x e) in omega arith
      go (by_read q) x k = omega arith
      go (by_call q) x k = omega arith

  -- two entries of one table at one place have one offset
  reads-one : (q p r : ℕ) → Owns L (by_read q) r → Owns L (by_read p) r → q ≡ p
  reads-one q p r (h, e) (l, f) =
      let z : q * 3 ≡ p * 3 =
      sym (offset-of-read L P.reached q h) ∙ ap (λ (x : ℕ). get_or (offsets L) x 0) (e ∙ sym f) ∙ offset-of-read L P.reached p l in
      omega arith

  calls-one : (q p r : ℕ) → Owns L (by_call q) r → Owns L (by_call p) r → q ≡ p
  calls-one q p r (h, e) (l, f) =
      let z : q * 4 ≡ p * 4 =
      sym (offset-of-call L P.reached q h) ∙ ap (λ (x : ℕ). get_or (offsets L) x 0) (e ∙ sym f) ∙ offset-of-call L P.reached p l in
      omega arith

  vars-one : (i j r : ℕ) → Owns L (by-var i) r → Owns L (by-var j) r → i ≡ j
  vars-one i j r (x, (w, e), q) (y, (v, f), p) =
      in-no-order i j (λ h. vars-apart i j w v h x y e f (q ∙ sym p)) (λ h. vars-apart j i v w h y x f e (p ∙ sym q))

  pub one-owner : (o p : Owner) (r : ℕ) → Owns L o r → Owns L p r → o ≡ p
  one-owner o p r x y = go o p x y (sym (owner-kind o r x) ∙ owner-kind p r y)
    where
      go : (o p : Owner) → Owns L o r → Owns L p r → kind_of o ≡ kind_of p → o ≡ p
      go (by-var i) (by-var j) x y k = ap by-var (vars-one i j r x y)
      go (by_read q) (by_read p) x y k = ap by_read (reads-one q p r x y)
      go (by_call q) (by_call p) x y k = ap by_call (calls-one q p r x y)
      go (by-var i) (by_read p) x y k = absurd (omega arith)
      go (by-var i) (by_call p) x y k = absurd (omega arith)
      go (by_read q) (by-var j) x y k = absurd (omega arith)
      go (by_read q) (by_call p) x y k = absurd (omega arith)
      go (by_call q) (by-var j) x y k = absurd (omega arith)
      go (by_call q) (by_read p) x y k = absurd (omega arith)

  -- what a row uses has an owner, and the row stands behind it
  end-owner : (i a j r : ℕ) → j < i → r < target_rows L → (o : Walk) → Ends L a j o → used_end L o ≡ r → OwnedBy L i r
  end-owner i a j r h u (RanOut p) (q, z) e = (by_read q, (z.inside, z.variable-is ∙ e), (j, h, sym z.index_is))
  end-owner i a j r h u (Met p v) z e = absurd (omega arith)
  end-owner i a j r h u Lost z e = absurd z

  pub use-owner : (i r : ℕ) → r < target_rows L → Uses L i r → OwnedBy L i r
  use-owner i r u (x, e) = go (S L i) refl (of_row L P F small i x) e (F.source-formed i x.0)
    where
      go : (node : Node) → S L i ≡ node → Found L i node → used_at L (m L i) node ≡ r
          → RowFormed (array_sorts L) (length L.source.bits) L.source.side (λ a. get_or (widths_of_source L) a 0) i node → OwnedBy L i r
      go (Var w) n f e g = (by-var i, (x, (w, n), e), refl)
      go (Select a j s k) n f e g = end-owner i a j r g.earlier.0 u (walk_of L j k s (m L i)) f e
      go (Call f w s k) n (t, (q, c)) e g = (
        by_call q,
        (c.inside, c.variable-is ∙ e),
        λ l h. let b : l < k = rw c.count-is at h in (get_or L.source.side (s + l) 0, (g.follows.1 l b).arg-earlier, sym (c.args_are l b)),
      )
      go (Const s w) n f e g = absurd (omega arith)
      go (Un t a) n f e g = absurd (omega arith)
      go (Bin t a b) n f e g = absurd (omega arith)
      go (Extract h l a) n f e g = absurd (omega arith)
      go (Extend t a k) n f e g = absurd (omega arith)
      go (Ite c t b) n f e g = absurd (omega arith)
      go Unknown n f e g = absurd (omega arith)

  -- so every row that uses an owner's variable stands behind the owner
  pub use-behind : (o : Owner) (i r : ℕ) → r < target_rows L → Owns L o r → Uses L i r → Behind L o i
  use-behind o i r h x u = go (use-owner i r h u)
    where
      go : OwnedBy L i r → Behind L o i
      go (p, y, b) = subst (λ (o : Owner). Behind L o i) (one-owner p o r y x) b

  -- no class is 2 or 3 in the end, so some row uses every entry's variable
  entry-used : (r : ℕ) → r < target_rows L → either (get_or (classes_of_tables L) r 0) 2 3 ≡ true → Used L r
  unfolding trace
  entry-used r h e =
      rows-hold L P.reached (λ c. either c 2 3 ≡ false → Used L r) r 0 (source_rows L) (turn-live L r) (omega arith) (omega arith)
      (λ z. no_way (sym e ∙ z)) (P.live r h)

  -- a row of the target is in use or of class 0 in the end
  used-or-free : (r : ℕ) → r < target_rows L → (get_or (classes L (source_rows L)) r 0 ≡ 0) ⊎ Used L r
  unfolding trace
  used-or-free r h =
      ⊎_elim inl (λ f. inr (f (P.live r h)))
      (rows-hold L P.reached (λ c. (c ≡ 0) ⊎ (either c 2 3 ≡ false → Used L r)) r 0 (source_rows L) (turn-used L r) (omega arith) (omega arith)
      (⊎_elim inl (λ x. inr (λ e. no_way (sym (entry x) ∙ e))) (class-from L P.reached r h)))
    where
      entry : ReadAt L r ⊎ CallAt L r → either (get_or (classes_of_tables L) r 0) 2 3 ≡ true
      entry = ⊎_elim (λ (q, l, v). rw (← v, class-of-read L P.reached q l)) (λ (q, l, v). rw (← v, class-of-call L P.reached q l))

  -- one in use that is no variable's image is of class 4 or 5
  pub chosen-class : (r : ℕ) → r < target_rows L → (get_or (classes L (source_rows L)) r 0 ≡ 0 → ⊥) → ((i : ℕ) → Owns L (by-var i) r → ⊥)
      → either (get_or (classes L (source_rows L)) r 0) 4 5 ≡ true
  chosen-class r h taken no-image = ⊎_elim (λ z. absurd (taken z)) (λ (i, u). go (use-owner i r h u)) (used-or-free r h)
    where
      entry : (o : Owner) → Owns L o r → 0 < kind_of o → either (get_or (classes L (source_rows L)) r 0) 4 5 ≡ true
      entry o x k =
          let c = get_or (classes L (source_rows L)) r 0 in
          let e : kind c ≡ kind_of o = kind-stays L P.reached r (source_rows L) (omega arith) ∙ owner-kind o r x in
          kind-end c (omega arith) (P.live r h)

      go : {i : ℕ} → OwnedBy L i r → either (get_or (classes L (source_rows L)) r 0) 4 5 ≡ true
      go (by-var i, x, _) = absurd (no-image i x)
      go (by_read q, x, _) = entry (by_read q) x (omega arith)
      go (by_call q, x, _) = entry (by_call q) x (omega arith)

  -- the variable of every owner is a row of the target that some row uses
  pub live : (o : Owner) (r : ℕ) → Owns L o r → (r < target_rows L) × Used L r
  live (by-var i) r (x, (w, e), q) = (rw (← q) x.1, (i, (x, ap (used_at L (m L i)) e ∙ q)))
  live (by_read q) r (h, v) =
      let u : r < target_rows L = rw v at (read-facts L P.reached q h).0 in (u, entry-used r u (rw (← v, class-of-read L P.reached q h)))
  live (by_call q) r (h, v) =
      let u : r < target_rows L = rw v at (call_facts L P.reached q h).0 in (u, entry-used r u (rw (← v, class-of-call L P.reached q h)))

  -- some row stands behind every owner
  some-behind : (o : Owner) (r : ℕ) → Owns L o r → (i : ℕ) × (i < source_rows L) × Behind L o i
  some-behind o r x = go (live o r x)
    where
      go : (r < target_rows L) × Used L r → (i : ℕ) × (i < source_rows L) × Behind L o i
      go (h, (i, u)) = (i, u.0.0, use-behind o i r h x u)

  -- what an earlier row is sent to and is a row of the target is an image
  image-of : (i y : ℕ) → i < source_rows L → y < target_rows L → SentBefore L i y → Image L y
  image-of i y h u (j, l, e) = (j, (omega arith, rw e u), e)

  pub of-read : (q : ℕ) → q < read_count L.reads → ReadEntry L q
  of-read q h =
      let (a, b, _, _) = read-facts L P.reached q h in
      let (u, w) = read-index L P.reached q h in
      let (i, l, x) = some-behind (by_read q) (read_var L.reads q) (h, refl) in
      record { inside = a; is-var = b; index-width = w; index-image = image-of i _ l u x }

  pub of-call : (q : ℕ) → q < call_count L.calls → CallEntry L q
  of-call q h =
      let (a, b, _, r) = call_facts L P.reached q h in
      let (i, v, x) = some-behind (by_call q) (call_var L.calls q) (h, refl) in
      record { inside = a; width = _; is-var = b; args-image = λ l u. image-of i _ v (r l u) (x l u) }
