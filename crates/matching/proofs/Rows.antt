-- What a source row's tag word says of its answer and classes, and what its form promises. Assumes nothing.
use Prim.Native.Nat.{ℕ, ◌+◌, ◌<◌, ◌≤◌}
use mathlib.Core.Path.{◌≡◌, refl, sym, ap, ◌∙◌}
use mathlib.Core.Bool.{Bool, true, false}
use mathlib.Core.List.{List}
use lib.ListN.{get_or, set}
use Rattle.sorts.specs.Sorts.{Sorts}
use Rattle.answers.specs.Answer.{Answer}
use Rattle.answers.specs.Answer.{VarClass, ConstMismatch, NodeMismatch, ChainMismatch, CallMismatch}
use Rattle.answers.specs.Answer.{is_accepted}
use Rattle.rows.specs.declared.Graph.TheVariants.{Source, Target}
use Rattle.rows.specs.declared.Node.{Node}
use Rattle.rows.specs.Row.{row_at}
use Rattle.rows.specs.Tags.{t_var, t_const, t_select, t_call}
use Rattle.rows.specs.Node.{node_of}
use Rattle.rows.proofs.View.{View, is-var, is-const, is-extract, is-extend, is-ite, is-un, is-select, is_call, is-bin, is-unknown, view_of}
use Rattle.wf.specs.Promise.{RowFormed, Follows, PairFormed, ArgFormed}
use Rattle.lowering.specs.Lowering.{Binding}
use Rattle.lowering.specs.Images.{same_const}
use Rattle.lowering.specs.Matching.{Noted, mapped_arg, select_walk, end_good, end_classes, call_matches, var_matches, node_matches, matched}
use Rattle.lowering.specs.Matching.{node_answer}
use Rattle.lowering.specs.Matching.{node_classes}
use Rattle.lowering.specs.Matching.{core, kind_of, kind_answer, kind_classes}

-- a node that is matched by its mapped row
abbrev pub Plain : Node → Type 0
Plain node = kind_of node ≡ core node

-- where the tag is none of the four others and the row follows a rule
viewed-plain : (σ : Sorts) (nbits : ℕ) (side : List ℕ) (width : ℕ → ℕ) (i w t a b c d : ℕ) (node : Node)
    → (t ≡ t_var → ⊥) → (t ≡ t_const → ⊥) → (t ≡ t_select → ⊥) → (t ≡ t_call → ⊥)
    → Follows σ nbits side width i node w → View t a b c d node → Plain node
viewed-plain σ nbits side width i w t a b c d node n0 n1 n37 n38 f (is-var e) = absurd (n0 e)
viewed-plain σ nbits side width i w t a b c d node n0 n1 n37 n38 f (is-const e) = absurd (n1 e)
viewed-plain σ nbits side width i w t a b c d node n0 n1 n37 n38 f (is-extract e) = refl
viewed-plain σ nbits side width i w t a b c d node n0 n1 n37 n38 f (is-extend e) = refl
viewed-plain σ nbits side width i w t a b c d node n0 n1 n37 n38 f (is-ite e) = refl
viewed-plain σ nbits side width i w t a b c d node n0 n1 n37 n38 f (is-un e) = refl
viewed-plain σ nbits side width i w t a b c d node n0 n1 n37 n38 f (is-select e) = absurd (n37 e)
viewed-plain σ nbits side width i w t a b c d node n0 n1 n37 n38 f (is_call e) = absurd (n38 e)
viewed-plain σ nbits side width i w t a b c d node n0 n1 n37 n38 f (is-bin g) = refl
viewed-plain σ nbits side width i w t a b c d node n0 n1 n37 n38 f (is-unknown l) = absurd f

-- the promise of a row, by its tag word
module _ {σ : Sorts} (nbits : ℕ) (side : List ℕ) (width : ℕ → ℕ) (i : ℕ) (e : List ℕ) (formed : RowFormed σ nbits side width i (node_of e)) where
  pub const-bits : get_or e 0 0 ≡ t_const → get_or e 1 0 + get_or e 2 0 ≤ nbits
  const-bits h = (rw h at formed.follows).1

  pub select-earlier : get_or e 0 0 ≡ t_select → get_or e 2 0 < i
  select-earlier h = (rw h at formed.earlier).0

  pub select-pairs : get_or e 0 0 ≡ t_select → (l : ℕ) → l < get_or e 4 0
      → PairFormed (σ.index (get_or e 1 0)) (σ.cell (get_or e 1 0)) side width i (get_or e 3 0) l
  select-pairs h = (rw h at formed.follows).2

  pub call-args : get_or e 0 0 ≡ t_call → (l : ℕ) → l < get_or e 4 0 → ArgFormed side i (get_or e 3 0) l
  call-args h = (rw h at formed.follows).1

  pub plain_row : (get_or e 0 0 ≡ t_var → ⊥) → (get_or e 0 0 ≡ t_const → ⊥) → (get_or e 0 0 ≡ t_select → ⊥) → (get_or e 0 0 ≡ t_call → ⊥)
      → Plain (node_of e)
  plain_row n0 n1 n37 n38 = viewed-plain σ nbits side width i (width i) _ _ _ _ _ (node_of e) n0 n1 n37 n38 formed.follows (view_of e)

-- the answer and the classes of source row i, with the words e, by its tag word
module _ (B : Binding) (N : Noted) (i r : ℕ) (e : List ℕ) (q : e ≡ row_at Source B.source.rows i) where
  abbrev answer : Answer
  answer = node_answer B N i r (node_of (row_at Source B.source.rows i))

  abbrev classes : List ℕ
  classes = node_classes B N.classes r (node_of (row_at Source B.source.rows i))

  its-answer : answer ≡ node_answer B N i r (node_of e)
  its-answer = ap (λ (l : List ℕ). node_answer B N i r (node_of l)) (sym q)

  its-classes : classes ≡ node_classes B N.classes r (node_of e)
  its-classes = ap (λ (l : List ℕ). node_classes B N.classes r (node_of l)) (sym q)

  pub var-answer : get_or e 0 0 ≡ t_var → answer ≡ matched (var_matches B.target.rows N.classes (get_or e 1 0) r) (VarClass i)
  var-answer h = its-answer ∙ rw h

  pub var-classes : get_or e 0 0 ≡ t_var → classes ≡ set N.classes r 1
  var-classes h = its-classes ∙ rw h

  pub const-answer : get_or e 0 0 ≡ t_const
      → answer ≡ matched (same_const B.source.bits e B.target.bits (row_at Target B.target.rows r)) (ConstMismatch i)
  const-answer h =
      its-answer ∙ rw h (ap (λ (l : List ℕ). matched (same_const B.source.bits l B.target.bits (row_at Target B.target.rows r))
      (ConstMismatch i)) (sym q))

  pub const-classes : get_or e 0 0 ≡ t_const → classes ≡ N.classes
  const-classes h = its-classes ∙ rw h

  pub select-answer : get_or e 0 0 ≡ t_select
      → answer ≡ matched (end_good B.map B.reads B.target.rows N (get_or e 1 0) (get_or e 2 0)
      (select_walk B r (get_or e 2 0) (get_or e 3 0) (get_or e 4 0))) (ChainMismatch i)
  select-answer h = its-answer ∙ rw h

  pub select-classes : get_or e 0 0 ≡ t_select → classes ≡ end_classes N.classes (select_walk B r (get_or e 2 0) (get_or e 3 0) (get_or e 4 0))
  select-classes h = its-classes ∙ rw h

  pub call-answer : get_or e 0 0 ≡ t_call
      → answer ≡ matched (call_matches B.calls B.cargs B.target.rows N (get_or e 1 0) (get_or e 2 0) (get_or e 4 0)
      (mapped_arg B.map B.source.side (get_or e 3 0)) r) (CallMismatch i)
  call-answer h = its-answer ∙ rw h

  pub call-classes : get_or e 0 0 ≡ t_call → classes ≡ set N.classes r 5
  call-classes h = its-classes ∙ rw h

  pub plain-answer : Plain (node_of e) → answer ≡ matched (node_matches B.map B.target.rows (node_of e) r) (NodeMismatch i)
  plain-answer p = its-answer ∙ ap (kind_answer B N i r) p

  pub plain-classes : Plain (node_of e) → classes ≡ N.classes
  plain-classes p = its-classes ∙ ap (kind_classes B N.classes r) p

-- a refusal where a match fails is no acceptance
pub accepted-matched : (b : Bool) (a : Answer) → is_accepted a ≡ false → is_accepted (matched b a) ≡ b
accepted-matched true a h = refl
accepted-matched false a h = h
