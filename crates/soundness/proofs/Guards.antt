-- The guards in the rules of Select and Call never decide: once the tables have passed, an entry that a class leads to lies in its table, and a
-- call's arguments in theirs. A refused row may set a class that no entry has, so this is said of the rows that Check comes to. Assumes nothing.
use Prim.Native.Nat.{ℕ, ◌+◌, ◌*◌, ◌<◌, ◌≤◌}
use mathlib.Core.Path.{◌≡◌, refl, sym, ap, ◌∙◌}
use mathlib.Core.Bool.{Bool, true, false, not}
use mathlib.Core.List.{List, [], ◌∷◌, ◌++◌}
use native.Mathlib.Omega.{arith}
use borrow.Author.Tests.{eqb-true, ltb-true, le-leb, not-false}
use lib.Dec.{eqb, ltb, leb}
use lib.ListN.{length, get_or}
use Rattle.answers.specs.Answer.{is_accepted}
use Rattle.lists.specs.Tests.{all, agree}
use Rattle.lists.proofs.First.{first-before, first-le}
use Rattle.lists.proofs.Tests.{all_true}
use Rattle.rows.specs.declared.Graph.TheVariants.{Target}
use Rattle.rows.specs.declared.Node.TheVariants.{Var}
use Rattle.rows.specs.Row.{row_at}
use Rattle.rows.specs.Tags.{either}
use Rattle.lowering.specs.declared.Walk.{Walk}
use Rattle.lowering.specs.declared.Walk.TheVariants.{RanOut, Met, Lost}
use Rattle.lowering.specs.Images.{row_is}
use Rattle.lowering.specs.Matching.{end_good, call_matches}
use Rattle.lowering.specs.Lowering.{Lowering, source_rows, target_rows}
use Rattle.lowering.specs.Check.{classes, offsets, answer_of, mismatch}
use Rattle.soundness.specs.Passed.{Reached}
use Rattle.soundness.specs.Guards.{end_bare, call_bare}
use Rattle.soundness.proofs.Facts.{m}
use Rattle.rows.proofs.Tags.{one_of}
use Rattle.soundness.proofs.Tables.{ReadAt, CallAt, read_whole, call-whole, offset-of-read, offset-of-call}
use Rattle.soundness.proofs.Classes.{noted_at, kind, read_at_lem, call_at}

-- a test that follows from those before it can be left out
skip : (before : List Bool) (g : Bool) (more : List Bool) → (all before ≡ true → g ≡ true) → all (before ++ (g ∷ more)) ≡ all (before ++ more)
unfolding all
skip [] g more f = rw (f refl)
skip (true ∷ before) g more f = skip before g more f
skip (false ∷ before) g more f = refl

module _ (L : Lowering) {n : ℕ} (E : Reached L n) where
  -- a read's class before row n: the entry at the row's offset lies in the table
  pub read-inside : (r : ℕ) → r < target_rows L → either (get_or (classes L n) r 0) 2 4 ≡ true → get_or (offsets L) r 0 + 3 ≤ length L.reads
  unfolding kind
  read-inside r u c = go (read_at_lem L E r n (omega arith) u (one_of (λ c. kind c ≡ 2) (get_or (classes L n) r 0) 2 4 refl refl c))
    where
      go : ReadAt L r → get_or (offsets L) r 0 + 3 ≤ length L.reads
      go (q, l, v) =
          let o : get_or (offsets L) r 0 ≡ q * 3 = ap (λ (z : ℕ). get_or (offsets L) z 0) (sym v) ∙ offset-of-read L E q l in
          rw o (read_whole L E q l)

  -- a call's class: so does its entry, and its arguments lie in the argument list
  pub call-inside : (r : ℕ) → r < target_rows L → either (get_or (classes L n) r 0) 3 5 ≡ true
      → (get_or (offsets L) r 0 + 4 ≤ length L.calls)
      × (get_or L.calls (get_or (offsets L) r 0 + 2) 0 + get_or L.calls (get_or (offsets L) r 0 + 3) 0 ≤ length L.cargs)
  unfolding kind
  call-inside r u c = go (call_at L E r n (omega arith) u (one_of (λ c. kind c ≡ 3) (get_or (classes L n) r 0) 3 5 refl refl c))
    where
      go : CallAt L r → (get_or (offsets L) r 0 + 4 ≤ length L.calls)
          × (get_or L.calls (get_or (offsets L) r 0 + 2) 0 + get_or L.calls (get_or (offsets L) r 0 + 3) 0 ≤ length L.cargs)
      go (q, l, v) =
          let o : get_or (offsets L) r 0 ≡ q * 4 = ap (λ (z : ℕ). get_or (offsets L) z 0) (sym v) ∙ offset-of-call L E q l in
          rw o (call-whole L E q l)

  -- so the rules give the same without the guards
  pub end_same : (a j : ℕ) (o : Walk)
      → end_good L.map L.reads L.target.rows (noted_at L n) a j o ≡ end_bare L.map L.reads L.target.rows (noted_at L n) a j o
  unfolding end_good end_bare
  end_same a j (RanOut r) =
      skip (ltb r (target_rows L) ∷ either (get_or (classes L n) r 0) 2 4 ∷ []) (leb (get_or (offsets L) r 0 + 3) (length L.reads))
      (eqb (get_or L.reads (get_or (offsets L) r 0 + 1) 0) a ∷ eqb (get_or L.reads (get_or (offsets L) r 0 + 2) 0) (m L j) ∷ [])
      (λ e. let (u, (c, _)) = all_true _ e in le-leb _ _ (read-inside r (ltb-true _ _ u) c))
  end_same a j (Met r v) = refl
  end_same a j Lost = refl

  module _ (f w k : ℕ) (xs : ℕ → ℕ) (r : ℕ) where
    abbrev o : ℕ
    o = get_or (offsets L) r 0

    abbrev image : Bool
    image = row_is (row_at Target L.target.rows r) (Var w)

    abbrev class : Bool
    class = either (get_or (classes L n) r 0) 3 5

    abbrev function : Bool
    function = eqb (get_or L.calls (o + 1) 0) f

    abbrev count : Bool
    count = eqb (get_or L.calls (o + 3) 0) k

    abbrev args : Bool
    args = agree xs (λ l. get_or L.cargs (get_or L.calls (o + 2) 0 + l) 0) k

    pub call_same : r < target_rows L
        → call_matches L.calls L.cargs L.target.rows (noted_at L n) f w k xs r
        ≡ call_bare L.calls L.cargs L.target.rows (noted_at L n) f w k xs r
    unfolding call_matches call_bare
    call_same u =
        skip (image ∷ class ∷ leb (o + 4) (length L.calls) ∷ function ∷ count ∷ []) (leb (get_or L.calls (o + 2) 0 + k) (length L.cargs))
        (args ∷ [])
        (λ e. let (_, (c, (_, (_, (y, _))))) = all_true _ e in le-leb _ _ (rw (eqb-true (get_or L.calls (o + 3) 0) k y) at (call-inside r u c).1))
        ∙ skip (image ∷ class ∷ []) (leb (o + 4) (length L.calls)) (function ∷ count ∷ args ∷ [])
        (λ e. let (_, (c, _)) = all_true _ e in le-leb _ _ (call-inside r u c).0)

-- once the tables have passed, Check comes to each row up to the first that is refused
pub reaches : (L : Lowering) → Reached L 0 → (i : ℕ) → i ≤ mismatch L → Reached L i
reaches L E i h =
    let u : mismatch L ≤ source_rows L = first-le (λ j. not (is_accepted (answer_of L j))) (source_rows L) in
    record {
      inside = omega arith;
      reads = E.reads;
      calls = E.calls;
      rows = λ j l. not-false _ (first-before (λ j. not (is_accepted (answer_of L j))) (source_rows L) j (omega arith));
    }

-- at each of these rows both rules say the same with and without their guards
pub guards-idle : (L : Lowering) → Reached L 0 → (i : ℕ) → i ≤ mismatch L
    → ((a j : ℕ) (o : Walk) → end_good L.map L.reads L.target.rows (noted_at L i) a j o
    ≡ end_bare L.map L.reads L.target.rows (noted_at L i) a j o)
    × ((f w k : ℕ) (xs : ℕ → ℕ) (r : ℕ) → r < target_rows L → call_matches L.calls L.cargs L.target.rows (noted_at L i) f w k xs r
    ≡ call_bare L.calls L.cargs L.target.rows (noted_at L i) f w k xs r)
guards-idle L E i h = (end_same L (reaches L E i h), call_same L (reaches L E i h))
