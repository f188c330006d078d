-- The goals that search leaves open. Assumes nothing.
use mathlib.Core.Path.{◌≡◌, ◌∙◌, sym}
use native.Mathlib.Omega.{arith}
use Rattle.lowering.specs.Roots.{pair, reads_need, read_root, root_at}
use Rattle.pairs.proofs.Walk.{row-end, row-skip, row_on, row-stop, root-inside}
use Rattle.pairs.proofs.array_cong_for.Goals as goal
use Rattle.pairs.proofs.array_cong_for.Goals.{After-read_needs, After-read_stands, then-read_needs+else-not-read_stands, else-read_needs}

-- what the calls test
needs-is : (c : After-read_needs)
    → let s = c.args in c.read_needs.result ≡ reads_need s.reads.now s.target.now s.tbits.now s.k c.loop-l.l
unfolding reads_need
needs-is c = c.read_needs.ensures.test ∙ rw c.row-rp.ensures.row

stands-is : (c : After-read_stands)
    → let s = c.args in
    c.read_stands.result ≡ root_at s.troots.now (read_root s.reads.now s.target.now) c.loop-l.idx (pair s.k c.loop-l.l)
unfolding root_at
stands-is c = c.read_stands.ensures.test

pub returns-then-not-read_stands : goal.returns-then-not-read_stands
returns-then-not-read_stands c = record {
  walk =
      let at = goal.at.returns-then-not-read_stands c in
      row-stop c.loop-l.invariant (rw c.read_count-n.ensures.count at c.loop-l-test.true)
      (sym (needs-is at.After-read_needs) ∙ c.if-read_needs.true) (sym (stands-is at.After-read_stands) ∙ c.if-not-read_stands.true);
}

pub overflow_add-idx : goal.overflow_add-idx
overflow_add-idx c =
    omega (arith, root-inside _ _ _ _ (sym (stands-is (goal.at.overflow_add-idx c).After-read_stands) ∙ c.if-not-read_stands.false))

pub loop-l-preserved : goal.loop-l-preserved
unfolding root_at
loop-l-preserved c =
    let needs = needs-is (goal.at.loop-l-preserved c).After-read_needs in
    let l = c.loop-l in
    let h = rw c.read_count-n.ensures.count at c.loop-l-test.true in
    elim c.if-read_needs.branch [
      | then-read_needs+else-not-read_stands w ↦
          rw w.idx-is (row_on l.invariant h (sym needs ∙ w.if-read_needs.true) (sym w.read_stands.ensures.test ∙ w.if-not-read_stands.false))
      | else-read_needs w ↦ rw w.idx-is (row-skip l.invariant h (sym needs ∙ w.if-read_needs.false))
    ]

pub returns : goal.returns
returns c = record { walk = row-end c.loop-l.invariant (rw c.read_count-n.ensures.count at c.loop-l-test.false) }
