-- Laws of the test for an Eq row. Assumes nothing.
use Prim.Native.Nat.{ℕ, ◌<◌, ◌≤◌}
use mathlib.Core.Path.{◌≡◌, sym}
use mathlib.Core.Bool.{true, false}
use mathlib.Core.List.{List, []}
use native.Mathlib.Omega.{arith}
use borrow.Author.Tests.{lt-ltb, le-ltb}
use lib.ListN.{get_or}
use Rattle.sorts.specs.Sorts.{plain}
use Rattle.lists.specs.Tests.{all}
use Rattle.rows.specs.declared.Graph.TheVariants.{Target}
use Rattle.rows.specs.declared.Node.TheVariants.{Bin}
use Rattle.rows.specs.Row.{row_count, row_at}
use Rattle.rows.specs.Tags.{t_eq}
use Rattle.wf.specs.Promise.{BinFormed, WellFormed}
use Rattle.lowering.specs.Images.{row_is}
use Rattle.lowering.specs.Matching.{is_eq}
use Rattle.lowering.proofs.Images.{eq-row}
use Rattle.lists.proofs.Choice.{last-test}

module _ (target : List ℕ) where
  -- a row past the target is no equality
  pub eq-out : (a b r : ℕ) → row_count Target target ≤ r → is_eq target a b r ≡ false
  unfolding is_eq all
  eq-out a b r h = rw (le-ltb _ _ h)

  pub eq-in : (a b r : ℕ) → r < row_count Target target → is_eq target a b r ≡ row_is (row_at Target target r) (Bin t_eq a b)
  unfolding is_eq all
  eq-in a b r h = rw (lt-ltb _ _ h) (sym (last-test (row_is (row_at Target target r) (Bin t_eq a b))))

-- in a well-formed target the operands of an Eq row have one width
pub eqs-even : (nbits : ℕ) (target ws : List ℕ) → WellFormed plain Target nbits [] target ws → (a b r : ℕ) → is_eq target a b r ≡ true
    → get_or ws a 0 ≡ get_or ws b 0
eqs-even nbits target ws formed a b r e =
    let (h, n) = eq-row target a b r e in
    let rule : BinFormed t_eq (get_or ws a 0) (get_or ws b 0) (get_or ws r 0) = rw n at (formed r h).follows in
    rule.even (λ z. omega arith)
