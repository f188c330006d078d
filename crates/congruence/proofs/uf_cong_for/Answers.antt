-- The goals that search leaves open. Assumes nothing.
use Prim.Native.Nat.{ℕ, ◌+◌, ◌*◌, ◌≤◌}
use mathlib.Core.Path.{◌≡◌, refl, ◌∙◌, sym, ap}
use mathlib.Core.Bool.{Bool, true}
use native.Mathlib.Omega.{arith}
use lib.ListN.{length}
use Rattle.lowering.specs.Tables.{call_function, call_start, arg_count, result_width, same_function}
use Rattle.lowering.specs.Roots.{pair, call_root, root_at}
use Rattle.keys.specs.Keys.{function_is, functions_agree}
use Rattle.keys.proofs.Keys.{same-function-at, alike, other-function, alike-fields}
use Rattle.pairs.proofs.Walk.{row-end, row-skip, row_on, row-stop, root-inside}
use Rattle.congruence.proofs.Even.{one_function_lem}
use Rattle.congruence.proofs.uf_cong_for.Goals as goal
use Rattle.congruence.proofs.uf_cong_for.Goals.{In-loop-l, After-function_is, After-same_function, After-call_stands}
use Rattle.congruence.proofs.uf_cong_for.Goals.{then-function_is+then-call_stands, then-function_is+else-call_stands+else-same_function}
use Rattle.congruence.proofs.uf_cong_for.Goals.{else-function_is}

-- entry l is whole and its arguments lie in their list
entry : (c : In-loop-l)
    → let s = c.args in
    let l = c.loop-l.l in
    (l * 4 + 4 ≤ length s.calls.now) × (call_start s.calls.now l + arg_count s.calls.now l ≤ length s.cargs.now)
entry c = c.requires.calls_in _ (rw c.call_count-n.ensures.count at c.loop-l-test.true)

-- what the calls test
alike_is : (c : After-function_is) → let s = c.args in c.function_is.result ≡ alike s.calls.now s.cargs.now s.ws.now s.k c.loop-l.l
alike_is c =
    let s = c.args in
    let at : ℕ → Bool = function_is s.calls.now s.ws.now (c.loop-l.l * 4) (call_function s.calls.now s.k) (arg_count s.calls.now s.k) in
    c.function_is.ensures.test ∙ ap at c.width_at-width.ensures.width

-- what entries k and l have alike where the first test passes
told : (c : After-function_is) → c.function_is.result ≡ true
    → let s = c.args in
    (call_function s.calls.now s.k ≡ call_function s.calls.now c.loop-l.l)
    × (arg_count s.calls.now s.k ≡ arg_count s.calls.now c.loop-l.l)
    × (result_width s.calls.now s.ws.now s.k ≡ result_width s.calls.now s.ws.now c.loop-l.l)
told c h = let s = c.args in alike-fields s.calls.now s.cargs.now s.ws.now s.k c.loop-l.l (sym (alike_is c) ∙ h)

needs-is : (c : After-same_function) → let s = c.args in c.same_function.result ≡ same_function s.calls.now s.cargs.now s.ws.now s.k c.loop-l.l
needs-is c =
    let s = c.args in
    let agree = functions_agree s.calls.now s.cargs.now s.ws.now (s.k * 4) (c.loop-l.l * 4) in
    let e : c.same_function.result ≡ agree = c.same_function.ensures.test in
    e ∙ same-function-at s.calls.now s.cargs.now s.ws.now _ _ s.k c.loop-l.l refl refl

stands-is : (c : After-call_stands)
    → let s = c.args in
    c.call_stands.result ≡ root_at s.troots.now (call_root s.calls.now s.cargs.now s.target.now) c.loop-l.idx (pair s.k c.loop-l.l)
unfolding root_at
stands-is c = c.call_stands.ensures.test

pub call_stands-requires : goal.call_stands-requires
call_stands-requires c =
    let at = goal.at.call_stands-requires c in
    let e = (told at.After-function_is c.if-function_is.true).1 in
    ((c.requires.calls_in _ c.requires.k_bound).1, rw e (entry at.In-loop-l).1)

pub overflow_add-idx : goal.overflow_add-idx
overflow_add-idx c = omega (arith, root-inside _ _ _ _ (sym (stands-is (goal.at.overflow_add-idx c).After-call_stands) ∙ c.if-call_stands.true))

pub same_function-requires : goal.same_function-requires
same_function-requires c =
    let e = entry (goal.at.same_function-requires c).In-loop-l in
    let w = c.requires.calls_in _ c.requires.k_bound in record { p_in_bounds = (w.0, e.0); args_at = (w.1, e.1) }

pub returns-then-same_function : goal.returns-then-same_function
returns-then-same_function c = record {
  walk =
      let at = goal.at.returns-then-same_function c in
      row-stop c.loop-l.invariant (rw c.call_count-n.ensures.count at c.loop-l-test.true)
      (sym (needs-is at.After-same_function) ∙ c.if-same_function.true) (sym (stands-is at.After-call_stands) ∙ c.if-call_stands.false);
}

pub loop-l-preserved : goal.loop-l-preserved
unfolding root_at
loop-l-preserved c =
    let s = c.args in
    let l = c.loop-l in
    let h = rw c.call_count-n.ensures.count at c.loop-l-test.true in
    let one = one_function_lem s.target.now s.ws.now c.requires.eqs_even s.calls.now s.cargs.now s.troots.now s.k l.l l.idx in
    let same = same-function-at s.calls.now s.cargs.now s.ws.now _ _ s.k l.l refl refl in
    let other = other-function s.calls.now s.cargs.now s.ws.now s.k l.l in
    let at = goal.at.loop-l-preserved c in
    elim c.if-function_is.branch [
      | then-function_is+then-call_stands w ↦
          let stands = sym w.call_stands.ensures.test ∙ w.if-call_stands.true in
          let (f, n, b) = told at.After-function_is w.if-function_is.true in
          rw w.idx-is (row_on l.invariant h (one stands f n b) stands)
      | then-function_is+else-call_stands+else-same_function w ↦
          rw w.idx-is (row-skip l.invariant h (sym same ∙ sym w.same_function.ensures.test ∙ w.if-same_function.false))
      | else-function_is w ↦ rw w.idx-is (row-skip l.invariant h (other (sym (alike_is at.After-function_is) ∙ w.if-function_is.false)))
    ]

pub returns : goal.returns
returns c = record { walk = row-end c.loop-l.invariant (rw c.call_count-n.ensures.count at c.loop-l-test.false) }
