-- A graph without an ill-formed row keeps the promise of specs/Promise: each rule is read off its test. Assumes nothing.
use Prim.Native.Nat.{ℕ, ◌+◌, ◌*◌, ◌-◌, ◌<◌, ◌≤◌}
use mathlib.Core.Path.{◌≡◌, refl, sym, ap, ◌∙◌}
use mathlib.Core.Bool.{Bool, true, false, cond, not}
use mathlib.Core.List.{List, [], ◌∷◌}
use native.Mathlib.Omega.{arith}
use borrow.Author.Tests.{eqb-true, eqb-false, ltb-true, leb-true, leb-false, ne_eqb, not-false}
use lib.Dec.{eqb, ltb, leb}
use lib.ListN.{length, get_or}
use Rattle.lists.specs.First.{none}
use Rattle.lists.proofs.Choice.{taken, both}
use Rattle.lists.proofs.First.{first-before, none-at}
use Rattle.lists.proofs.Build.{build-length, build-stay, build-at}
use Rattle.sorts.specs.Sorts.{Sorts}
use Rattle.rows.specs.declared.Graph.{Graph}
use Rattle.rows.specs.declared.Node.{Node}
use Rattle.rows.specs.declared.Node.TheVariants.{Var, Const, Un, Bin, Extract, Extend, Ite, Select, Call, Unknown}
use Rattle.rows.specs.Row.{row_count, row_at}
use Rattle.rows.specs.Tags.{t_concat, t_not, is_bool}
use Rattle.rows.specs.Node.{node_of, operands}
use Rattle.rules.specs.Rule.{ceiling, capped, same, un_width, bin_width, has_width, pair_bad, arg_bad, entries_good, chain_good, args_good, rule}
use Rattle.rules.specs.Rule.{earlier}
use Rattle.rules.specs.Rule.{node_width}
use Rattle.wf.specs.Widths.{row_width, widths_to, widths, row_ill, ill_row}
use Rattle.wf.specs.Promise.{Below, PairFormed, ArgFormed, BinFormed, Follows, IsWidth, AreWidths, RowFormed, WellFormed}

below : (n : ℕ) (l : List ℕ) → earlier l n ≡ true → Below n l
below n [] e = tt
below n (a ∷ more) e =
    let (h, t) = both (ltb a n) (earlier more n) e in
    (ltb-true a n h, below n more t)

-- entries of a side list that passed: each lies in the list and is not bad
entries_at : (words : ℕ) (bad : ℕ → Bool) (side : List ℕ) (s k l : ℕ) → l < k → entries_good words bad side s k ≡ true
    → (s + words * k ≤ length side) × (bad l ≡ false)
entries_at words bad side s k l h e =
    let (a, b) = both (leb (s + words * k) (length side)) (none bad k) (rw (ne_eqb k 0 (λ z. absurd (omega arith))) at e) in
    (leb-true (s + words * k) (length side) a, none-at bad k b l h)

-- a pair that is not bad
pair_parts : (a b : Bool) → cond a (not b) true ≡ false → (a ≡ true) × (b ≡ true)
pair_parts true b e = (refl, not-false b e)
pair_parts false b e = let z : ◌≡◌ {A = ℕ} 0 1 = cc in absurd (omega arith)

-- Concat is no Boolean operator
concat-no : (t : ℕ) → t ≡ t_concat → is_bool t ≡ true → ⊥
concat-no t q n = let e : false ≡ true = rw q at n in let z : ◌≡◌ {A = ℕ} 0 1 = cc in omega arith

-- ws are the widths of the rows before row i, and `width` agrees with them there
module _ (σ : Sorts) (nbits : ℕ) (side ws : List ℕ) (width : ℕ → ℕ) (agree : (a : ℕ) → a < length ws → get_or ws a 0 ≡ width a) where
  has_width_lem : (a w : ℕ) → has_width ws a w ≡ true → (a < length ws) × (width a ≡ w)
  has_width_lem a w e =
      let (h, t) = both (ltb a (length ws)) (eqb (get_or ws a 0) w) e in
      let l = ltb-true a (length ws) h in
      (l, sym (agree a l) ∙ eqb-true (get_or ws a 0) w t)

  un-formed : (t a w : ℕ) → un_width t a ≡ w → 0 < w → (w ≡ a) × (t ≡ t_not → a ≡ 1)
  un-formed t a w e h = go (eqb t t_not) refl e
    where
      go : (b : Bool) → eqb t t_not ≡ b → cond b (same a 1 1) a ≡ w → (w ≡ a) × (t ≡ t_not → a ≡ 1)
      go true q x =
          let (y, z) = taken (eqb a 1) 1 w x h in
          let one = eqb-true a 1 y in
          (sym z ∙ sym one, λ n. one)
      go false q x = (sym x, λ n. absurd (eqb-false t t_not q n))

  bin-formed : (t a b w : ℕ) → bin_width t a b ≡ w → 0 < w → BinFormed t a b w
  bin-formed t a b w e h = record { width_is = sym e; even = even; bits = bits }
    where
      pick : (p : Bool) (v : ℕ) → cond p (same a 1 (same b 1 1)) (same a b v) ≡ w → (a ≡ b) × (p ≡ true → (a ≡ 1) × (b ≡ 1))
      pick true v x =
          let (y, z) = taken (eqb a 1) (same b 1 1) w x h in
          let (u, o) = taken (eqb b 1) 1 w z h in
          let one = eqb-true a 1 y in
          let two = eqb-true b 1 u in
          (one ∙ sym two, λ n. (one, two))
      pick false v x = (eqb-true a b (taken (eqb a b) v w x h).0, λ n. let z : ◌≡◌ {A = ℕ} 0 1 = cc in absurd (omega arith))

      rest : (t ≡ t_concat → ⊥) → (a ≡ b) × (is_bool t ≡ true → (a ≡ 1) × (b ≡ 1))
      rest n = pick (is_bool t) _ (rw (ne_eqb t t_concat n) at e)

      even : (t ≡ t_concat → ⊥) → a ≡ b
      even n = (rest n).0

      bits : is_bool t ≡ true → (a ≡ 1) × (b ≡ 1)
      bits n = (rest (λ q. concat-no t q n)).1 n

  pairs-formed : (iw cw s k : ℕ) → chain_good iw cw ws side s k ≡ true → (l : ℕ) → l < k → PairFormed iw cw side width (length ws) s l
  pairs-formed iw cw s k e l h =
      let (r, p) = entries_at 2 (pair_bad iw cw ws side s) side s k l h e in
      let (a, b) = pair_parts _ _ p in
      let (ie, iq) = has_width_lem (get_or side (s + 2 * l) 0) iw a in
      let (ve, vq) = has_width_lem (get_or side (s + 2 * l + 1) 0) cw b in
      record { within = omega arith; index-earlier = ie; index-width = iq; value-earlier = ve; value-width = vq }

  args-formed : (s k : ℕ) → args_good ws side s k ≡ true → (l : ℕ) → l < k → ArgFormed side (length ws) s l
  args-formed s k e l h =
      let (r, p) = entries_at 1 (arg_bad (length ws) side s) side s k l h e in
      record { within = omega arith; arg-earlier = leb-false (length ws) (get_or side (s + l) 0) p }

  -- a node whose operands are earlier and whose rule gives a width above 0 follows it
  follows : (node : Node) (w : ℕ) → Below (length ws) (operands node) → rule σ nbits side ws node ≡ w → 0 < w
      → Follows σ nbits side width (length ws) node w
  follows (Var v) w o e h = sym e
  follows (Const s v) w o e h = let (a, b) = taken (leb (s + v) nbits) v w e h in (sym b, leb-true (s + v) nbits a)
  follows (Un t a) w o e h = un-formed t (width a) w (rw (agree a o.0) at e) h
  follows (Bin t a b) w o e h = bin-formed t (width a) (width b) w (rw (agree a o.0, agree b o.1.0) at e) h
  follows (Extract high low a) w o e h =
      let (x, y) = taken (leb low high) _ w (rw (agree a o.0) at e) h in
      let (u, v) = taken (ltb high (width a)) (high - low + 1) w y h in
      (sym v, leb-true low high x, ltb-true high (width a) u)
  follows (Extend t a n) w o e h = sym (rw (agree a o.0) at e)
  follows (Ite c t e) w o q h =
      let (x, y) = taken (eqb (width c) 1) _ w (rw (agree c o.0, agree t o.1.0, agree e o.1.1.0) at q) h in
      let (u, v) = taken (eqb (width t) (width e)) (width t) w y h in
      (sym v, eqb-true (width t) (width e) u, eqb-true (width c) 1 x)
  follows (Select array j s k) w o e h =
      let (x, y) = taken (eqb (width j) (σ.index array)) _ w (rw (agree j o.0) at e) h in
      let (u, v) = taken (chain_good (σ.index array) (σ.cell array) ws side s k) (σ.cell array) w y h in
      (sym v, eqb-true (width j) (σ.index array) x, pairs-formed (σ.index array) (σ.cell array) s k u)
  follows (Call f v s k) w o e h = let (x, y) = taken (args_good ws side s k) v w e h in (sym y, args-formed s k x)
  follows Unknown w o e h = absurd (omega arith)

  -- a node of a width above 0
  node-formed : (node : Node) → (node_width σ nbits side ws node ≡ 0 → ⊥) → node_width σ nbits side ws node ≡ width (length ws)
      → RowFormed σ nbits side width (length ws) node
  node-formed node n e =
      let m : width (length ws) ≡ 0 → ⊥ = λ z. n (e ∙ z) in
      let h : 0 < width (length ws) = omega (arith, m) in
      let (a, b) = taken (earlier (operands node) (length ws)) (capped (rule σ nbits side ws node)) (width (length ws)) e h in
      let (x, y) = taken (leb (rule σ nbits side ws node) ceiling) (rule σ nbits side ws node) (width (length ws)) b h in
      let o = below (length ws) (operands node) a in
      let is-width : IsWidth (width (length ws)) = record { positive = h; within = rw y at (leb-true (rule σ nbits side ws node) ceiling x) } in
      record { earlier = o; is-width = is-width; follows = follows node (width (length ws)) o y h }

-- The promise: a graph without an ill-formed row is well formed, with its widths.
pub well-formed : (σ : Sorts) (graph : Graph) (nbits : ℕ) (side g : List ℕ) → row_count graph g ≤ ill_row σ graph nbits side g
    → WellFormed σ graph nbits side g (widths σ graph nbits side g)
well-formed σ graph nbits side g all i h =
    rw (build-length f i) at
    (node-formed σ nbits side (widths_to σ graph nbits side g i) (λ a. get_or (widths σ graph nbits side g) a 0)
    (λ a l. sym (build-stay f 0 (row_count graph g) i a (rw (build-length f i) at l) (omega arith)))
    (node_of (row_at graph g i))
    (eqb-false _ 0 (first-before (row_ill σ graph nbits side g) (row_count graph g) i (omega arith)))
    (sym (ap (λ (z : ℕ). get_or (widths σ graph nbits side g) z 0) (build-length f i) ∙ build-at f 0 (row_count graph g) i h)))
  where
    f : ℕ → List ℕ → ℕ
    f = row_width σ graph nbits side g

-- and every width that is handed upward lies between 1 and the ceiling
pub are-widths : (σ : Sorts) (graph : Graph) (nbits : ℕ) (side g : List ℕ) → row_count graph g ≤ ill_row σ graph nbits side g
    → AreWidths (widths σ graph nbits side g)
are-widths σ graph nbits side g all i h =
    (well-formed σ graph nbits side g all i (rw (build-length (row_width σ graph nbits side g) (row_count graph g)) at h)).is-width
