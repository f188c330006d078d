-- The numbers of the rows so far, as the loop keeps them, and the next row's. Assumes nothing.
use Prim.Native.Nat.{ℕ, ◌+◌, ◌<◌, ◌≤◌, ◌^◌}
use mathlib.Core.Path.{◌≡◌, refl, sym, ap, ◌∙◌}
use mathlib.Core.Bool.{cond}
use mathlib.Core.List.{List, [], ◌∷◌, ◌++◌, map, append_assoc}
use native.Mathlib.Decide.{dec_lt}
use native.Mathlib.Numerals.{add-one}
use native.Mathlib.Omega.{arith}
use lib.Dec.{eqb}
use lib.ListN.{length, get_or, set, take, drop, length-map, get_or-map, get_or-eq_default}
use lib.Pow.{pow_pos}
use lib.Seq.{take_at, set_at, drop-cons}
use Rattle.lists.specs.Build.{build}
use Rattle.lists.proofs.Build.{build-length, build-stay}
use Rattle.rows.specs.declared.Graph.TheVariants.{Target}
use Rattle.rows.specs.declared.Node.{Node}
use Rattle.rows.specs.Row.{row_count, row_at}
use Rattle.rows.specs.Tags.{t_var}
use Rattle.rows.specs.Node.{node_of, operands}
use Rattle.value.specs.Val.{Val, val, wid, nat, Fit}
use Rattle.value.specs.Operate.{operate, tag_of, parameters}
use Rattle.value.specs.Graph.{numbers_to, node_value, row_value, values_to, value}
use Rattle.value.proofs.Formed.{value-formed}
use Rattle.wf.specs.Promise.{Below}
use Rattle.evaluate.specs.Ready.{Ready, lookup, Evaluable}

map_snoc : (l : List Val) (v : Val) → map nat (l ++ (v ∷ [])) ≡ map nat l ++ (nat v ∷ [])
map_snoc [] v = refl
map_snoc (x ∷ l) v = ap (λ (t : List ℕ). nat x ∷ t) (map_snoc l v)

-- two ways to look up that agree on earlier rows
map_below : (i : ℕ) (f g : ℕ → Val) → ((a : ℕ) → a < i → f a ≡ g a) → (l : List ℕ) → Below i l → map f l ≡ map g l
map_below i f g e [] b = refl
map_below i f g e (a ∷ l) b = rw (e a b.0, map_below i f g e l b.1)

val-eta : (v : Val) → val (wid v) (nat v) ≡ v
val-eta (val w n) = refl

module _ (g bits given : List ℕ) where
  pub numbers-length : (i : ℕ) → length (numbers_to g bits given i) ≡ i
  numbers-length i = length-map (build (row_value bits (λ i. get_or given i 0) g) i) nat ∙ build-length (row_value bits (λ i. get_or given i 0) g) i

  pub numbers-start : (l : List ℕ) → l ≡ numbers_to g bits given 0 ++ drop 0 l
  unfolding build
  numbers-start l = refl

  pub numbers-front : (i : ℕ) (rest : List ℕ) → take i (numbers_to g bits given i ++ rest) ≡ numbers_to g bits given i
  numbers-front i rest = take_at (numbers_to g bits given i) rest i (numbers-length i)

  pub numbers-store : (l : List ℕ) (i v : ℕ) → i < length l
      → v ≡ nat (row_value bits (λ i. get_or given i 0) g i (values_to bits (λ i. get_or given i 0) g i))
      → set (numbers_to g bits given i ++ drop i l) i v ≡ numbers_to g bits given (i + 1) ++ drop (i + 1) l
  unfolding build
  numbers-store l i v h e =
      rw (add-one, drop-cons l i 0, e, map_snoc)
      (set_at (numbers_to g bits given i) _ _ _ i (numbers-length i) ∙ sym (append_assoc (numbers_to g bits given i) _ _))

  module _ (ws : List ℕ) (E : Evaluable g bits given ws) (i : ℕ) (h : i < row_count Target g) where
    formed-at : (a : ℕ) → a < row_count Target g
        → (wid (value bits (λ i. get_or given i 0) g a) ≡ get_or ws a 0) × Fit (value bits (λ i. get_or given i 0) g a)
    formed-at = value-formed bits [] g ws (λ i. get_or given i 0) E.formed E.clean E.core E.assigns

    stay : (a : ℕ) → a < i → value bits (λ i. get_or given i 0) g a ≡ get_or (values_to bits (λ i. get_or given i 0) g i) a (val 0 0)
    stay a l = build-stay (row_value bits (λ i. get_or given i 0) g) (val 0 0) (row_count Target g) i a l (omega arith)

    -- what is looked up is the value of the earlier row
    number_at : (a : ℕ) → get_or (numbers_to g bits given i) a 0 ≡ nat (get_or (values_to bits (λ i. get_or given i 0) g i) a (val 0 0))
    number_at a = get_or-map nat (values_to bits (λ i. get_or given i 0) g i) a (val 0 0)

    looked : (a : ℕ) → a < i → lookup ws (numbers_to g bits given i) a ≡ get_or (values_to bits (λ i. get_or given i 0) g i) a (val 0 0)
    looked a l =
        rw (number_at a, ← stay a l, ← (formed-at a (omega arith)).0) (val-eta (value bits (λ i. get_or given i 0) g a))

    number_fits : (a : ℕ) → Dec (a < i) → get_or (numbers_to g bits given i) a 0 < 2 ^ get_or ws a 0
    number_fits a (yes l) =
        let (w, t) = formed-at a (omega arith) in
        rw (number_at a, ← stay a l, ← w) t
    number_fits a (no l) =
        let past : length (numbers_to g bits given i) ≤ a = rw (numbers-length i) (omega arith) in
        rw (get_or-eq_default (numbers_to g bits given i) 0 past) (pow_pos _)

    pub row-ready : Ready bits ws (numbers_to g bits given i) i (node_of (row_at Target g i))
    row-ready =
        record {
          formed = E.formed i h;
          positive = λ a l. (E.formed a (omega arith)).is-width.positive;
          narrow = E.narrow;
          fits = λ a. number_fits a (dec_lt a i);
          clean = E.clean;
          decoded = (row_at Target g i, refl);
          core = E.core i h;
          rows = rw E.widths h;
          numbers = numbers-length i;
        }

    pub row_number : (j : ℕ) → nat (node_value bits (λ j. get_or given i 0) (lookup ws (numbers_to g bits given i)) j (node_of (row_at Target g i)))
        ≡ nat (row_value bits (λ i. get_or given i 0) g i (values_to bits (λ i. get_or given i 0) g i))
    row_number j =
        ap (λ (os : List Val). nat (cond (eqb (tag_of node) t_var) (val (get_or (parameters bits node) 0 0) (get_or given i 0))
        (operate (tag_of node) (parameters bits node) os)))
        (map_below i (lookup ws (numbers_to g bits given i)) (λ a. get_or (values_to bits (λ i. get_or given i 0) g i) a (val 0 0)) looked
        (operands node)
        (E.formed i h).earlier)
      where
        node : Node
        node = node_of (row_at Target g i)
