-- The goals that search leaves open. Assumes nothing.
use Rattle.std.proofs.Common.{◌≡◌, ◌-◌, sym, ◌∙◌, length, take, drop, length-drop, arith}
use lib.Seq.{take_all}
use Rattle.text.proofs.Line.{token-bad, token-open, token-good}
use Rattle.text.proofs.next_word.Goals as goal
use Rattle.text.proofs.next_word.Goals.{After-good_digits, then-not-good_digits-via-then-not-good_digits}
use Rattle.text.proofs.next_word.Goals.{then-not-good_digits-via-else-not-good_digits+then-not-word_ends}

-- the rest of the line
rest-is : (c : After-good_digits) → (let l = c.args.line.now in take (length l - c.args.at) (drop c.args.at l) ≡ drop c.args.at l)
rest-is c = take_all _ _ (omega (arith, length-drop c.args.at c.args.line.now))

pub returns-then-not-good_digits-clause-word : goal.returns-then-not-good_digits-clause-word
returns-then-not-good_digits-clause-word c =
    let r = rest-is (goal.at.returns-then-not-good_digits-clause-word c).After-good_digits in
    elim c.then-not-good_digits.branch [
      | then-not-good_digits-via-then-not-good_digits w ↦
          token-bad c.args.line.now c.args.at _ _ r c.digits-n.ensures.count _ c.good_digits.ensures.good w.if-not-good_digits.true
      | then-not-good_digits-via-else-not-good_digits+then-not-word_ends w ↦
          token-open c.args.line.now c.args.at _ _ r c.digits-n.ensures.count _ c.good_digits.ensures.good w.if-not-good_digits.false
          (sym w.if-not-word_ends.true ∙ w.word_ends.ensures.ends)
    ]

pub returns-clause-word : goal.returns-clause-word
returns-clause-word c =
    let r = rest-is (goal.at.returns-clause-word c).After-good_digits in
    token-good c.args.line.now c.args.at _ _ r c.digits-n.ensures.count _ c.good_digits.ensures.good c.if-not-good_digits.false
    (sym c.if-not-word_ends.false ∙ c.word_ends.ensures.ends) _ c.value.ensures.value
