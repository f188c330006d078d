-- Laws of tests on two constants, and where their bits lie. Assumes nothing.
use Prim.Native.Nat.{ℕ, ◌<◌, ◌+◌, ◌≤◌}
use mathlib.Core.Path.{◌≡◌, refl, sym, ◌∙◌}
use mathlib.Core.Bool.{Bool, true, false, not, cond}
use mathlib.Core.List.{List}
use borrow.Author.Tests.{eq-eqb, ne_eqb}
use lib.Dec.{eqb}
use lib.ListN.{length, get_or}
use Rattle.std.specs.Option.{is_some}
use Rattle.std.specs.declared.option.Option.TheVariants.{Some, None}
use Rattle.sorts.specs.Sorts.{Sorts}
use Rattle.lists.specs.Tests.{all, agree}
use Rattle.rows.specs.declared.Graph.{Graph}
use Rattle.rows.specs.Row.{row_count, row_at}
use Rattle.rows.specs.Tags.{t_const}
use Rattle.wf.specs.Promise.{WellFormed}
use Rattle.lowering.specs.Images.{both_const, same_const, unequal_const}
use Rattle.lowering.proofs.Images.{const-row, both-const}
use Rattle.images.specs.Bits.{BitsWithin}
use Rattle.images.specs.declared.Constant.{Constant}
use Rattle.images.specs.Constants.{constant, constant_of}
use Rattle.lists.proofs.Choice.{last-test}

-- in a well-formed graph the bits of every constant lie in the list of bits
pub bits-within : {σ : Sorts} (graph : Graph) (bits side g ws : List ℕ) → WellFormed σ graph (length bits) side g ws
    → (i : ℕ) → i < row_count graph g → BitsWithin bits (row_at graph g i)
bits-within graph bits side g ws formed i h e = (rw (const-row (row_at graph g i) e) at (formed i h).follows).1

-- a row as a constant: a test of it, and its fields
is-of : (r : List ℕ) → is_some (constant_of r) ≡ eqb (get_or r 0 0) t_const
is-of r = go (eqb (get_or r 0 0) t_const)
  where
    go : (b : Bool) → is_some (cond b (Some (constant (get_or r 1 0) (get_or r 2 0))) None) ≡ b
    go true = refl
    go false = refl

module _ (r q : List ℕ) where
  pub both-some : is_some (constant_of r) ≡ true → is_some (constant_of q) ≡ both_const r q
  unfolding both_const all
  both-some e = rw (sym (is-of r) ∙ e, is-of q) (last-test _)

  pub both-none : is_some (constant_of r) ≡ false → false ≡ both_const r q
  unfolding both_const all
  both-none e = rw (sym (is-of r) ∙ e)

  pub constants : both_const r q ≡ true
      → (constant_of r ≡ Some (constant (get_or r 1 0) (get_or r 2 0))) × (constant_of q ≡ Some (constant (get_or q 1 0) (get_or q 2 0)))
  constants b = let (x, y) = both-const r q b in (rw (eq-eqb _ _ x), rw (eq-eqb _ _ y))

  -- the fields of two constants
  pub fields : (c d : Constant) → Some c ≡ constant_of r → Some d ≡ constant_of q → both_const r q ≡ true
      → (c ≡ constant (get_or r 1 0) (get_or r 2 0)) × (d ≡ constant (get_or q 1 0) (get_or q 2 0))
  fields c d e f b = let p = constants b in (cc p.0, cc p.1)

module _ (rbits r qbits q : List ℕ) where
  pub same-no : both_const r q ≡ false → false ≡ same_const rbits r qbits q
  unfolding same_const all
  same-no e = rw e

  module _ (consts : both_const r q ≡ true) where
    pub same-other-width : (get_or r 2 0 ≡ get_or q 2 0 → ⊥) → false ≡ same_const rbits r qbits q
    unfolding same_const all
    same-other-width n = rw (consts, ne_eqb _ _ n)

    pub same-by-bits : get_or r 2 0 ≡ get_or q 2 0
        → agree (λ k. get_or rbits (get_or r 1 0 + k) 0) (λ k. get_or qbits (get_or q 1 0 + k) 0) (get_or r 2 0) ≡ same_const rbits r qbits q
    unfolding same_const all
    same-by-bits e = rw (consts, eq-eqb (get_or r 2 0) (get_or q 2 0) e) (last-test _)

    -- both stretches lie in their lists
    pub stretches : BitsWithin rbits r → BitsWithin qbits q → get_or r 2 0 ≡ get_or q 2 0
        → (get_or r 1 0 + get_or r 2 0 ≤ length rbits) × (get_or q 1 0 + get_or r 2 0 ≤ length qbits)
    stretches b d e = let (x, y) = both-const r q consts in (b x, rw e (d y))

module _ (bits r q : List ℕ) where
  pub unequal-no : both_const r q ≡ false → false ≡ unequal_const bits r q
  unfolding unequal_const all
  unequal-no e = rw e

  pub unequal-is : both_const r q ≡ true → not (same_const bits r bits q) ≡ unequal_const bits r q
  unfolding unequal_const all
  unequal-is e = rw e (last-test _)
