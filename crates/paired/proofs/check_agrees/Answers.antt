-- The copies are the case's bits. Assumes nothing.
use Prim.Native.Nat.{◌+◌}
use mathlib.Core.Path.{◌∙◌, sym}
use mathlib.Core.Bool.{false≢true}
use native.Mathlib.Omega.{arith}
use Rattle.cases.specs.Case.{given}
use Rattle.paired.proofs.Same.{check-bits, lent-low, check-at}
use Rattle.paired.proofs.check_agrees.Goals as goal

pub overflow_add-at : goal.overflow_add-at
overflow_add-at c = omega (arith, c.lent_at-at.ensures.place, lent-low c.args.second)

pub returns-then-not-has_shape : goal.returns-then-not-has_shape
returns-then-not-has_shape c = record { agreed = λ e. absurd (false≢true e) }

pub returns-then-not-copy_bytes : goal.returns-then-not-copy_bytes
returns-then-not-copy_bytes c = record { agreed = λ e. absurd (false≢true e) }

pub returns-then-not-copy_bytes-2 : goal.returns-then-not-copy_bytes-2
returns-then-not-copy_bytes-2 c = record { agreed = λ e. absurd (false≢true e) }

pub lowering_agrees-requires : goal.lowering_agrees-requires
lowering_agrees-requires c = record {
  words_len_bound = c.requires;
  at_bound = omega (arith, c.lent_at-at.ensures.place, lent-low c.args.second);
}

pub returns : goal.returns
returns c = record {
  agreed =
      let a = c.args in
      let w = a.words.now in
      let at = c.lent_at-at.result in
      let ebits = c.copy_bytes.ensures.copied (c.if-not-copy_bytes.false) ∙ c.given-bits.ensures.list in
      let tbits = c.copy_bytes-2.ensures.copied (c.if-not-copy_bytes-2.false) ∙ c.given-bits_too.ensures.list in
      λ e. check-at a.strict a.second w at c.lent_at-at.ensures.place (sym c.has_shape.ensures.shape ∙ c.if-not-has_shape.false)
      (check-bits a.strict a.second w (given w at) (given w (at + 1)) (given w (at + 2)) (given w (at + 3)) ebits tbits
      (c.lowering_agrees.ensures.agreed e));
}
