-- Each return is one law of proofs/Outcome, with what the calls before it left. Assumes nothing.
use mathlib.Core.Path.{◌≡◌, sym, ap, ap₂, ◌∙◌}
use mathlib.Core.Bool.{not, true, false}
use Prim.Native.Nat.{ℕ, ◌≤◌}
use mathlib.Core.List.{List, [], ◌∷◌}
use native.Mathlib.Omega.{arith}
use lib.ListN.{length, replicate, take}
use lib.Seq.{length-take-le}
use Rattle.sorts.specs.Sorts.{plain}
use Rattle.answers.specs.Answer.{Answer}
use Rattle.answers.specs.Answer.{Accepted}
use Rattle.answers.specs.Answer.{is_accepted}
use Rattle.lists.proofs.Build.{build-length}
use Rattle.rows.specs.declared.Graph.TheVariants.{Target}
use Rattle.rows.specs.Row.{row_count, ragged}
use Rattle.wf.specs.Widths.{ill_row, row_width, widths}
use Rattle.refusals.specs.Rows.{rows_answer}
use Rattle.inputs.specs.Inputs.{given_answer}
use Rattle.answers.specs.Result.{result_of}
use Rattle.values.proofs.Outcome.{values-15, values-18, values-18-too, values-rows, values-given, values-accepted}
use Rattle.values.proofs.Given.{evaluable}
use Rattle.values.proofs.Steps.{widths-answer, widths-refused, widths-accepted, widths-front, values-list}
use Rattle.values.proofs.values.Goals as goal
use Rattle.values.proofs.values.Goals.{After-target_widths-a}

pub returns-then-is_ragged : goal.returns-then-is_ragged
returns-then-is_ragged c = record {
  outcome =
      let s = c.args in
      sym (values-15 s.target.now s.bits.now s.given.now s.ws.now s.vs.now (sym c.is_ragged.ensures.test ∙ c.if-is_ragged.true));
}

pub returns-then-ws-n : goal.returns-then-ws-n
returns-then-ws-n c = record {
  outcome =
      let s = c.args in
      let count = c.row_count-n.ensures.count in
      let whole = sym c.is_ragged.ensures.test ∙ c.if-is_ragged.false in
      sym (values-18 s.target.now s.bits.now s.given.now s.ws.now s.vs.now whole (rw count at c.if-ws-n.true));
}

pub returns-then-vs-n : goal.returns-then-vs-n
returns-then-vs-n c = record {
  outcome =
      let s = c.args in
      let count = c.row_count-n.ensures.count in
      let whole = sym c.is_ragged.ensures.test ∙ c.if-is_ragged.false in
      let room = rw count at c.if-ws-n.false in
      sym (values-18-too s.target.now s.bits.now s.given.now s.ws.now s.vs.now whole room (rw count at c.if-vs-n.true));
}

-- the lists at the start
module _ (c : After-target_widths-a) where
  abbrev target : List ℕ
  target = c.args.target.now

  abbrev bits : List ℕ
  bits = c.args.bits.now

  abbrev given : List ℕ
  given = c.args.given.now

  abbrev ws : List ℕ
  ws = c.args.ws.now

  abbrev vs : List ℕ
  vs = c.args.vs.now

  -- 16, 17 and 2 of the target, and its widths
  abbrev rows-answer : Answer
  rows-answer = rows_answer Target target bits (ill_row plain Target (length bits) [] target)

  abbrev all-widths : List ℕ
  all-widths = widths plain Target (length bits) [] target

  -- what has passed before the widths are asked for
  count : c.row_count-n.result ≡ row_count Target target
  count = c.row_count-n.ensures.count

  whole : ragged Target target ≡ false
  whole = sym c.is_ragged.ensures.test ∙ c.if-is_ragged.false

  room : row_count Target target ≤ length ws
  room = rw count at c.if-ws-n.false

  room-too : row_count Target target ≤ length vs
  room-too = rw count at c.if-vs-n.false

  answer : c.target_widths-a.result ≡ rows-answer
  answer = widths-answer target bits ws _ _ c.target_widths-a.ensures.outcome whole room

  many : length all-widths ≡ row_count Target target
  many = build-length (row_width plain Target (length bits) [] target) (row_count Target target)

  -- once they are accepted
  module _ (passed : is_accepted c.target_widths-a.result ≡ true) where
    rows : is_accepted rows-answer ≡ true
    rows = rw answer at passed

    front : take c.row_count-n.result c.target_widths-a.new.ws ≡ all-widths
    front = widths-front target bits ws _ _ c.target_widths-a.ensures.outcome whole room rows _ count

    -- the answer to the words given
    given_is : (b : Answer) → b ≡ given_answer target (take c.row_count-n.result c.target_widths-a.new.ws) given
        → b ≡ given_answer target all-widths given
    given_is b e = e ∙ ap (λ (l : List ℕ). given_answer target l given) front

pub returns-then-is_err : goal.returns-then-is_err
returns-then-is_err c = record {
  outcome =
      let w = (goal.at.returns-then-is_err c).After-target_widths-a in
      let refused = rw (answer w) at (c.is_err.ensures.negation ∙ ap not c.if-is_err.true) in
      rw (widths-refused (target w) (bits w) (ws w) _ _ w.target_widths-a.ensures.outcome (whole w) (room w) refused, c.clear.ensures.zeros)
      (ap (λ (a : Answer). result_of a (replicate (length (ws w)) 0 ∷ replicate (length (vs w)) 0 ∷ [])) (answer w)
      ∙ sym (values-rows (target w) (bits w) (given w) (ws w) (vs w) (whole w) (room w) (room-too w) refused));
}

pub slice_bounds-given_answer-end-2 : goal.slice_bounds-given_answer-end-2
slice_bounds-given_answer-end-2 c = sym (length-take-le _ _ (omega (arith, c.target_widths-a.auto.ws)))

pub given_answer-b-requires : goal.given_answer-b-requires
given_answer-b-requires c =
    let w = (goal.at.given_answer-b-requires c).After-target_widths-a in
    rw (front w (c.is_err.ensures.negation ∙ ap not c.if-is_err.false)) (many w)

pub returns-then-is_err-2 : goal.returns-then-is_err-2
returns-then-is_err-2 c = record {
  outcome =
      let w = (goal.at.returns-then-is_err-2 c).After-target_widths-a in
      let passed = c.is_err.ensures.negation ∙ ap not c.if-is_err.false in
      let is = given_is w passed _ c.given_answer-b.ensures.answer in
      let refused = rw is at (c.is_err-2.ensures.negation ∙ ap not c.if-is_err-2.true) in
      rw (c.clear-then-is_err-2.ensures.zeros, w.target_widths-a.auto.ws, c.clear-then-is_err-2-2.ensures.zeros, is)
      (sym (values-given (target w) (bits w) (given w) (ws w) (vs w) (whole w) (room w) (room-too w) (rows w passed) refused));
}

pub slice_bounds-evaluate-end-2 : goal.slice_bounds-evaluate-end-2
slice_bounds-evaluate-end-2 c = sym (length-take-le _ _ (omega (arith, c.target_widths-a.auto.ws)))

pub evaluate-requires : goal.evaluate-requires
evaluate-requires c =
    let w = (goal.at.evaluate-requires c).After-target_widths-a in
    let passed = c.is_err.ensures.negation ∙ ap not c.if-is_err.false in
    let words = rw (given_is w passed _ c.given_answer-b.ensures.answer) at (c.is_err-2.ensures.negation ∙ ap not c.if-is_err-2.false) in
    record {
      evaluable = rw (front w passed) (evaluable (target w) (bits w) (given w) (rows w passed) words);
      ws_in_bounds = rw (front w passed, many w) (room-too w);
    }

pub returns : goal.returns
returns c = record {
  outcome =
      let w = (goal.at.returns c).After-target_widths-a in
      let passed = c.is_err.ensures.negation ∙ ap not c.if-is_err.false in
      let words = rw (given_is w passed _ c.given_answer-b.ensures.answer) at (c.is_err-2.ensures.negation ∙ ap not c.if-is_err-2.false) in
      let v = c.evaluate in
      ap₂ (λ (k l : List ℕ). result_of Accepted (k ∷ l ∷ []))
      (widths-accepted (target w) (bits w) (ws w) _ _ w.target_widths-a.ensures.outcome (whole w) (room w) (rows w passed))
      (c.clear_from.ensures.zeros
      ∙ values-list (target w) (bits w) (given w) (vs w) _ _ _ (count w) (ap length (front w passed) ∙ many w) v.auto.vs v.ensures.list)
      ∙ sym (values-accepted (target w) (bits w) (given w) (ws w) (vs w) (whole w) (room w) (room-too w) (rows w passed) words);
}
