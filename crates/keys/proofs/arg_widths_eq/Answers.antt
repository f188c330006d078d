-- The arguments pair by pair. Assumes nothing.
use Prim.Native.Nat.{ℕ, ◌+◌, ◌-◌}
use mathlib.Core.Path.{◌∙◌}
use native.Mathlib.Omega.{arith}
use borrow.Author.Tests.{tests}
use lib.Dec.{eqb}
use lib.ListN.{get_or, take, drop}
use Rattle.std.proofs.Common.{rules}
use Rattle.std.proofs.lemmas.Iterator.{YieldsList-from_slice, YieldsList-from_zip}
use Rattle.std.proofs.lemmas.Iterator.Search.{all_from_yields_List}
use Rattle.images.proofs.Agree.{pairs-agree}
use Rattle.keys.proofs.arg_widths_eq.Goals as goal

pub returns : goal.returns
returns c = record {
  test =
      let s = c.args in
      let cut = λ (o : ℕ). take (o + s.n - o) (drop o s.cargs.now) in
      all_from_yields_List (λ (p : ℕ × ℕ). eqb (get_or s.ws.now p.0 0) (get_or s.ws.now p.1 0)) c.all.new.self _ c.all.result c.all.ensures.ran
      (YieldsList-from_zip (YieldsList-from_slice (cut s.s) cc) (YieldsList-from_slice (cut s.t) (grind arith)))
      (λ x b q k. search (rules, tests))
      ∙ pairs-agree s.cargs.now s.cargs.now s.s s.t s.n c.requires.0 c.requires.1 (λ a. get_or s.ws.now a 0) (λ a. get_or s.ws.now a 0);
}
