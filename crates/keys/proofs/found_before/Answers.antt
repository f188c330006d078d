-- The goals that search leaves open. Assumes nothing.
use Prim.Native.Nat.{ℕ, ◌+◌, ◌*◌, ◌≤◌}
use mathlib.Core.Path.{subst, sym}
use mathlib.Core.Bool.{true, false}
use native.Mathlib.Omega.{arith}
use Rattle.keys.proofs.Search.{searched-none, searched-more, goes_on, found}
use Rattle.keys.proofs.found_before.Given.{Over}
use Rattle.keys.proofs.found_before.Goals as goal
use Rattle.keys.proofs.found_before.Goals.{In-loop-off}

pub loop-off-init : goal.loop-off-init
loop-off-init g c = searched-none _ _ _

pub is-requires : goal.is-requires
is-requires g c = let s = c.loop-off.invariant in rw s.1 (c.requires.callable s.0 s.2)

-- past a no a whole entry follows
more : (g : Over) (c : In-loop-off g) → c.loop-off.off + g.row.SIZE ≤ c.args.k * g.row.SIZE
more g c =
    let s = c.loop-off.invariant in
    goes_on _ _ _ c.requires.own _ s (subst (λ (o : ℕ). g.F.Fn.post c.args.is (o, tt) false) s.1 c.loop-off-test.ensures)

pub overflow_add-off : goal.overflow_add-off
overflow_add-off g c = omega (arith, more g c)

pub loop-off-smaller : goal.loop-off-smaller
loop-off-smaller g c = omega (arith, more g c)

pub loop-off-preserved : goal.loop-off-preserved
loop-off-preserved g c =
    let s = c.loop-off.invariant in
    searched-more _ _ _ c.requires.own _ s (subst (λ (o : ℕ). g.F.Fn.post c.args.is (o, tt) false) s.1 c.loop-off-test.ensures)

pub returns : goal.returns
returns g c = record {
  test = λ p says.
      let s = c.loop-off.invariant in
      found _ _ _ _ s p (λ l h m. sym (says l false h m)) (omega arith)
      (sym (says s.0 true s.2 (subst (λ (o : ℕ). g.F.Fn.post c.args.is (o, tt) true) s.1 c.loop-off-test.ensures)));
}
