-- The goals that search leaves open. Assumes nothing.
use Prim.Native.Nat.{ℕ, ◌+◌, ◌≤◌, ◌<◌}
use mathlib.Core.Path.{◌≡◌, ◌∙◌, sym, ap, subst}
use mathlib.Core.Bool.{true}
use mathlib.Core.List.{List, ◌++◌}
use native.Mathlib.Omega.{arith}
use borrow.Author.Count.{below_more}
use borrow.Author.Tests.{eq-eqb, ne_eqb, le-ltb}
use lib.ListN.{length, set, take, drop, length-set}
use Rattle.lists.specs.Build.{build}
use Rattle.lists.proofs.Build.{build-front, build-store}
use Rattle.sorts.specs.Sorts.{Sorts}
use Rattle.sorts.specs.Every.{every}
use Rattle.rules.specs.Rule.{capped}
use Rattle.rules.proofs.Rule.{capped-in, capped-over}
use Rattle.wf.proofs.Stop.{good-width, line-good}
use Rattle.wf.proofs.Parts.{part-width}
use Rattle.wf.specs.Widths.{row_width, widths_to}
use Rattle.wf.specs.Pass.{good_width, row_stops, OneSort, Reached}
use Rattle.wf.proofs.rows_wf.Goals as goal
use Rattle.wf.proofs.rows_wf.Goals.{After-line_width-w}

-- a width stored behind those before it
stored : (f : ℕ → List ℕ → ℕ) (ws₀ ws : List ℕ) (i w : ℕ) → ws ≡ build f i ++ drop i ws₀ → w ≡ f i (build f i) → i < length ws₀
    → set ws i w ≡ build f (i + 1) ++ drop (i + 1) ws₀
stored f ws₀ ws i w e q h = rw (e, q) (build-store f ws₀ 0 i h)

pub returns-then-tags-r : goal.returns-then-tags-r
returns-then-tags-r c =
    let l = c.loop-i in
    let bad = le-ltb _ _ (rw (c.tag_count-tags.ensures.count, c.row-r.ensures.row) at c.if-tags-r.true) in
    record {
      place = (omega arith, omega arith);
      part = λ σ base one start. (l.invariant.1 σ base one start, λ h. rw bad);
    }

-- what the call gives, over the widths before row i, within the ceiling
width_is : (c : After-line_width-w)
    → let s = c.args in
    let l = c.loop-i in
    (σ : Sorts) (base : List ℕ) → OneSort σ s.graph s.g.now s.from s.to s.sort.index s.sort.cell
    → Reached σ s.graph s.nbits s.side.now s.g.now base l.ws l.i
    → capped c.line_width-w.result
    ≡ good_width σ s.graph s.nbits s.side.now s.g.now l.i (widths_to σ s.graph s.nbits s.side.now s.g.now l.i)
width_is c σ base one reached =
    let s = c.args in
    let l = c.loop-i in
    let row = c.row-r in
    ap capped c.line_width-w.ensures.width
    ∙ line-good (every s.sort.index s.sort.cell) s.graph s.nbits s.side.now s.g.now l.i (take l.i l.ws) s.lines
    row.result c.requires.lines_value row.ensures.row
    (rw c.tag_count-tags.ensures.count at c.if-tags-r.false)
    ∙ part-width σ s.graph s.nbits s.side.now s.g.now s.from s.to s.sort.index s.sort.cell l.i (take l.i l.ws)
    one (omega arith) c.loop-i-test.true
    ∙ ap (good_width σ s.graph s.nbits s.side.now s.g.now l.i) (ap (take l.i) reached.list ∙ build-front _ l.i _)

-- a row without one is where the pass stops
stops : (c : After-line_width-w) → capped c.line_width-w.result ≡ 0
    → let s = c.args in
    let l = c.loop-i in
    ((s.from ≤ l.i) × (l.i ≤ s.to)) ×
    ((σ : Sorts) (base : List ℕ) → OneSort σ s.graph s.g.now s.from s.to s.sort.index s.sort.cell
    → Reached σ s.graph s.nbits s.side.now s.g.now base s.ws.now s.from
    → Reached σ s.graph s.nbits s.side.now s.g.now base l.ws l.i
    × (l.i < s.to → row_stops σ s.graph s.nbits s.side.now s.g.now l.i ≡ true))
stops c e =
    let l = c.loop-i in (
      (omega arith, omega arith),
      λ σ base one start.
          let reached = l.invariant.1 σ base one start in
          (reached, λ h. eq-eqb _ _ (sym (width_is c σ base one reached) ∙ e)),
    )

pub returns-then-w-eq0 : goal.returns-then-w-eq0
returns-then-w-eq0 c =
    let p = stops (goal.at.returns-then-w-eq0 c).After-line_width-w (ap capped c.if-w-eq0.true) in record { place = p.0; part = p.1 }

pub returns-then-w-gt-CEILING : goal.returns-then-w-gt-CEILING
returns-then-w-gt-CEILING c =
    let p = stops (goal.at.returns-then-w-gt-CEILING c).After-line_width-w (capped-over c.line_width-w.result (omega arith)) in
    record { place = p.0; part = p.1 }

-- the next row is reached
on : (c : After-line_width-w) → (c.line_width-w.result ≡ 0 → ⊥) → c.line_width-w.result ≤ 4096
    → let s = c.args in
    let l = c.loop-i in
    (σ : Sorts) (base : List ℕ) → OneSort σ s.graph s.g.now s.from s.to s.sort.index s.sort.cell
    → Reached σ s.graph s.nbits s.side.now s.g.now base s.ws.now s.from
    → Reached σ s.graph s.nbits s.side.now s.g.now base (set l.ws l.i c.line_width-w.result) (l.i + 1)
on c some in-ceiling σ base one start =
    let s = c.args in
    let l = c.loop-i in
    let reached = l.invariant.1 σ base one start in
    let width = sym (capped-in c.line_width-w.result in-ceiling) ∙ width_is c σ base one reached in
    let goes = ne_eqb _ _ (λ z. some (width ∙ z)) in
    let p = c.requires.from_le_to in
    let room : l.i < length base =
    omega (arith, reached.whole, l.invariant.0, c.loop-i-test.true, p.1, p.2) in
    record {
      whole = simp length-set reached.whole;
      list = stored (row_width σ s.graph s.nbits s.side.now s.g.now) base l.ws l.i _ reached.list
          (width ∙ good-width σ s.graph s.nbits s.side.now s.g.now l.i goes) room;
      on = below_more _ _ reached.on goes;
    }

pub loop-i-preserved : goal.loop-i-preserved
loop-i-preserved c =
    let l = c.loop-i in
    (simp length-set l.invariant.0, on (goal.at.loop-i-preserved c).After-line_width-w c.if-w-eq0.false (omega arith))

pub returns : goal.returns
returns c =
    let s = c.args in
    let l = c.loop-i in
    let done : l.i ≡ s.to = omega arith in
    record {
      place = let p = c.requires.from_le_to in (p.0, omega arith);
      part = λ σ base one start. (
        subst (λ (k : ℕ). Reached σ s.graph s.nbits s.side.now s.g.now base l.ws k) done (l.invariant.1 σ base one start),
        λ h. absurd (omega arith),
      );
    }
