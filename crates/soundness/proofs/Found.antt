-- What stands at the image of each mapped row. Assumes nothing.
use Prim.Native.Nat.{ℕ, ◌+◌, ◌*◌, ◌<◌, ◌≤◌}
use mathlib.Core.Path.{◌≡◌, refl, sym, ap, ◌∙◌, subst}
use mathlib.Core.Bool.{true, false}
use mathlib.Core.List.{map}
use native.Mathlib.Omega.{arith}
use borrow.Author.Tests.{eqb-true}
use lib.Dec.{eqb}
use lib.ListN.{get_or}
use Rattle.answers.specs.Answer.{ConstMismatch, NodeMismatch, ChainMismatch}
use Rattle.answers.specs.Answer.{is_accepted}
use Rattle.lists.proofs.Choice.{no_way}
use Rattle.rows.specs.declared.Graph.TheVariants.{Source, Target}
use Rattle.rows.specs.declared.Node.{Node}
use Rattle.rows.specs.declared.Node.TheVariants.{Var, Const, Un, Bin, Extract, Extend, Ite, Select, Call, Unknown}
use Rattle.rows.specs.Row.{MAX, row_at}
use Rattle.rows.specs.Tags.{t_var}
use Rattle.rows.specs.Node.{operands}
use Rattle.rows.proofs.Tags.{un-tags, extend-tags}
use Rattle.rows.proofs.View.{TagGood, node-good}
use Rattle.value.specs.Operate.{tag_of, parameters}
use Rattle.lowering.specs.declared.Walk.{Walk}
use Rattle.lowering.specs.declared.Walk.TheVariants.{RanOut, Met, Lost}
use Rattle.lowering.specs.Images.{map_node}
use Rattle.lowering.specs.Matching.{end_good, node_matches}
use Rattle.lowering.specs.Lowering.{Lowering, source_rows, target_rows}
use Rattle.lowering.specs.Check.{offsets}
use Rattle.lowering.proofs.Images.{row_is_lem}
use Rattle.soundness.proofs.Facts.{S, T, m, Mapped, Formed, SameCore, CallOf, Ends, walk_of, Found}
use Rattle.soundness.specs.Passed.{Passed}
use Rattle.soundness.proofs.Images.{map-good, same_const_lem}
use Rattle.soundness.proofs.Tables.{ReadAt, CallAt, offset-of-read, offset-of-call}
use Rattle.soundness.proofs.Classes.{test_of, answer_at, end_of, var-passed, ran_out, CallHere, call-passed, mapped-passed, read_at_lem, call_at}

module _ (L : Lowering) (P : Passed L) (F : Formed L) (small : target_rows L ≤ MAX) where
  -- a core row: the equations of its mapped node hold by themselves
  core-found : (i : ℕ) (node : Node) → S L i ≡ node → node_matches L.map L.target.rows node (m L i) ≡ true
      → (TagGood node → eqb (tag_of node) t_var ≡ false)
      → tag_of (map_node L.map node) ≡ tag_of node → parameters L.target.bits (map_node L.map node) ≡ parameters L.source.bits node
      → operands (map_node L.map node) ≡ map (m L) (operands node) → SameCore L node (T L (m L i))
  unfolding node_matches
  core-found i node n e v t p o =
      let g : TagGood node = subst TagGood n (node-good (row_at Source L.source.rows i)) in
      let q : T L (m L i) ≡ map_node L.map node =
      row_is_lem (row_at Target L.target.rows (m L i)) (map_node L.map node) (map-good L.map node g) e in
      record {
        no-var = v g;
        same_tag = ap tag_of q ∙ t;
        same-parameters = ap (parameters L.target.bits) q ∙ p;
        mapped-operands = ap operands q
            ∙ o;
      }

  const-found : (i s w : ℕ) → S L i ≡ Const s w → is_accepted (answer_at L i (Const s w)) ≡ true → SameCore L (Const s w) (T L (m L i))
  const-found i s w n e =
      let (_, y, z) =
      same_const_lem L.source.bits L.target.bits (row_at Source L.source.rows i) (row_at Target L.target.rows (m L i))
      (test_of _ (ConstMismatch i) refl e) in
      record { no-var = refl; same_tag = ap tag_of y; same-parameters = sym z ∙ ap (parameters L.source.bits) n; mapped-operands = ap operands y }

  -- a walk that ran out is at the variable of the entry of that array and index
  end-found : (i a j : ℕ) → i < source_rows L → (o : Walk) → end_of L i a j o ≡ true → Ends L a j o
  unfolding end_good
  end-found i a j h (RanOut r) e =
      let (u, c, x, y) = ran_out L i a j r e in
      go x y (read_at_lem L P.reached r i (omega arith) u c)
    where
      go : get_or L.reads (get_or (offsets L) r 0 + 1) 0 ≡ a → get_or L.reads (get_or (offsets L) r 0 + 2) 0 ≡ m L j → ReadAt L r
          → Ends L a j (RanOut r)
      go x y (q, l, v) =
          let o : q * 3 ≡ get_or (offsets L) r 0 = sym (offset-of-read L P.reached q l) ∙ ap (λ (z : ℕ). get_or (offsets L) z 0) v in (
            q,
            record {
              inside = l;
              variable-is = v;
              array-is = ap (λ (z : ℕ). get_or L.reads (z + 1) 0) o
                  ∙ x;
              index_is = ap (λ (z : ℕ). get_or L.reads (z + 2) 0) o ∙ y;
            },
          )
  end-found i a j h (Met r v) e = eqb-true _ _ e
  end-found i a j h Lost e = no_way (sym e)

  call-found : (r f k : ℕ) (xs : ℕ → ℕ) → CallHere L r f k xs → CallAt L r → (q : ℕ) × CallOf L q r f k xs
  call-found r f k xs here (q, l, v) =
      let o : q * 4 ≡ get_or (offsets L) r 0 = sym (offset-of-call L P.reached q l) ∙ ap (λ (z : ℕ). get_or (offsets L) z 0) v in (
        q,
        record {
          inside = l;
          variable-is = v;
          function-is = ap (λ (z : ℕ). get_or L.calls (z + 1) 0) o ∙ here.function-here;
          count-is = ap (λ (z : ℕ). get_or L.calls (z + 3) 0) o ∙ here.count-here;
          args_are = λ j h. ap (λ (z : ℕ). get_or L.cargs (get_or L.calls (z + 2) 0 + j) 0) o ∙ sym (here.args-here j h);
        },
      )

  found : (i : ℕ) → Mapped L i → (node : Node) → S L i ≡ node → is_accepted (answer_at L i node) ≡ true → Found L i node
  found i x (Var w) n e = (var-passed L i w e).0
  found i x (Const s w) n e = const-found i s w n e
  found i x (Un t a) n e =
      core-found i (Un t a) n (test_of _ (NodeMismatch i) refl e) (un-tags (λ t. eqb t t_var ≡ false) t refl refl refl) refl refl refl
  found i x (Bin t a b) n e = core-found i (Bin t a b) n (test_of _ (NodeMismatch i) refl e) (λ g. g.no-var) refl refl refl
  found i x (Extract h l a) n e = core-found i (Extract h l a) n (test_of _ (NodeMismatch i) refl e) (λ g. refl) refl refl refl
  found i x (Extend t a k) n e =
      core-found i (Extend t a k) n (test_of _ (NodeMismatch i) refl e) (extend-tags (λ t. eqb t t_var ≡ false) t refl refl) refl refl refl
  found i x (Ite c t f) n e = core-found i (Ite c t f) n (test_of _ (NodeMismatch i) refl e) (λ g. refl) refl refl refl
  found i x (Select a j s k) n e = end-found i a j x.0 (walk_of L j k s (m L i)) (test_of _ (ChainMismatch i) refl e)
  found i x (Call f w s k) n e =
      let (v, c, here) = call-passed L i f w s k e in
      (v, call-found (m L i) f k _ here (call_at L P.reached (m L i) i (omega (arith, x.0)) x.1 c))
  found i x Unknown n e = no_way (sym e)

  pub of_row : (i : ℕ) → Mapped L i → Found L i (S L i)
  of_row i x = found i x (S L i) refl (mapped-passed L P small i x)
