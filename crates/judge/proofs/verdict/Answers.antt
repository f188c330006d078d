-- A book that is short enough has room in lists of these lengths; so has its target, which makes acceptance sound. Assumes nothing.
use mathlib.Core.Path.{ap, ◌∙◌}
use native.Mathlib.Omega.{arith}
use Rattle.answers.specs.Result.{Result}
use Rattle.judge.proofs.Room.{too_long, verdict-is}
use Rattle.judge.proofs.Sound.{verdict-means}
use Rattle.judge.proofs.verdict.Goals as goal

pub returns-then-book-gt65536 : goal.returns-then-book-gt65536
returns-then-book-gt65536 c =
    let s = c.args in
    let e = too_long s.strict s.book.now c.if-book-gt65536.true in
    let m = verdict-means s.strict s.book.now (omega arith) _ e in
    record { answer = e; sound = m.0; choices = m.1 }

pub returns : goal.returns
returns c =
    let s = c.args in
    let e =
    ap (λ (o : Result). o.answer) c.judge.ensures.outcome ∙ verdict-is s.strict s.book.now _ _ _ _ _ (omega arith) (omega arith)
    (omega arith) (omega arith) (omega arith) c.if-book-gt65536.false in
    let m = verdict-means s.strict s.book.now (omega arith) _ e in
    record { answer = e; sound = m.0; choices = m.1 }
