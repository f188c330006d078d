-- Both rows are constants, so their fields are starts and widths; the stretches of bits lie in their lists. Assumes nothing.
use mathlib.Core.Path.{sym, ap, ◌∙◌}
use borrow.Author.Tests.{ne_eqb}
use Rattle.images.specs.declared.Constant.{Constant}
use Rattle.images.proofs.Constants.{constants, fields, same-other-width, same-by-bits, stretches}
use Rattle.images.proofs.same_bits.Goals as goal

pub returns-in_default : goal.returns-in_default
returns-in_default c = let p = constants _ _ c.requires.2 in record { test = cc (p.1, c.in_default.is-1, c.ext_const-2.ensures.constant) }

pub returns-in_default-2 : goal.returns-in_default-2
returns-in_default-2 c = let p = constants _ _ c.requires.2 in record { test = cc (p.0, c.in_default.is-0, c.ext_const.ensures.constant) }

pub bits_eq-requires : goal.bits_eq-requires
bits_eq-requires c =
    let p = fields _ _ _ _ c.in-Some-Some.ensures.constant c.in-Some-Some.ensures'.constant c.requires.2 in
    let w = sym (ap (λ (k : Constant). k.width) p.0) ∙ c.if-c-d.true ∙ ap (λ (k : Constant). k.width) p.1 in
    rw (p.0, p.1) (stretches _ _ _ _ c.requires.2 c.requires.0 c.requires.1 w)

pub returns-then-c-d : goal.returns-then-c-d
returns-then-c-d c = record {
  test =
      let p = fields _ _ _ _ c.in-Some-Some.ensures.constant c.in-Some-Some.ensures'.constant c.requires.2 in
      let w = sym (ap (λ (k : Constant). k.width) p.0) ∙ c.if-c-d.true ∙ ap (λ (k : Constant). k.width) p.1 in
      c.bits_eq.ensures.test ∙ rw (p.0, p.1) (same-by-bits _ _ _ _ c.requires.2 w);
}

pub returns-else-c-d : goal.returns-else-c-d
returns-else-c-d c = record {
  test =
      let p = fields _ _ _ _ c.in-Some-Some.ensures.constant c.in-Some-Some.ensures'.constant c.requires.2 in
      ne_eqb _ _ c.if-c-d.false ∙ same-other-width _ _ _ _ c.requires.2
      (λ z. c.if-c-d.false (ap (λ (k : Constant). k.width) p.0 ∙ z ∙ sym (ap (λ (k : Constant). k.width) p.1)));
}
