-- The key at an entry's offset is the entry's; entry k has its own. Assumes nothing.
use Prim.Native.Nat.{◌*◌}
use mathlib.Core.Path.{◌≡◌, ◌∙◌, refl, sym}
use mathlib.Core.Bool.{false}
use mathlib.Core.List.{[], ◌∷◌}
use Rattle.std.proofs.Common.{rules}
use Rattle.lists.specs.Tests.{all}
use Rattle.lists.proofs.Choice.{no_way}
use Rattle.lowering.specs.Tables.{same_call, call_function, call_start, arg_count}
use Rattle.keys.specs.Keys.{call_is, functions_agree}
use Rattle.keys.proofs.Keys.{same-call-at, call-self}
use Rattle.keys.proofs.call_dup.Goals as goal

pub found_before-requires-clause-own : goal.found_before-requires-clause-own
found_before-requires-clause-own c = λ e.
    let s = c.args in
    let key : false ≡ all (call_is s.calls.now s.cargs.now s.ws.now (s.k * 4) (call_function s.calls.now s.k) (call_start s.calls.now s.k)
    (arg_count s.calls.now s.k) c.width_at-w.result ∷ functions_agree s.calls.now s.cargs.now s.ws.now (s.k * 4) (s.k * 4) ∷ []) = search rules in
    no_way (sym (call-self s.calls.now s.cargs.now s.ws.now s.k)
    ∙ sym (key ∙ rw c.width_at-w.ensures.width (same-call-at s.calls.now s.cargs.now s.ws.now (s.k * 4) s.k s.k refl)))

pub returns : goal.returns
returns c = record {
  test =
      let s = c.args in
      c.found_before.ensures.test (λ i. same_call s.calls.now s.cargs.now s.ws.now i s.k)
      (λ l b h e.
      let key : b ≡ all (call_is s.calls.now s.cargs.now s.ws.now (l * 4) (call_function s.calls.now s.k) (call_start s.calls.now s.k)
      (arg_count s.calls.now s.k) c.width_at-w.result ∷ functions_agree s.calls.now s.cargs.now s.ws.now (l * 4) (s.k * 4) ∷ []) = search rules in
      key ∙ rw c.width_at-w.ensures.width (same-call-at s.calls.now s.cargs.now s.ws.now (l * 4) l s.k refl));
}
