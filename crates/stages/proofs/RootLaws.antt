-- The answer to the roots, refusal by refusal. Assumes nothing.
use Prim.Native.Nat.{ℕ, ◌+◌, ◌<◌, ◌≤◌}
use mathlib.Core.Path.{◌≡◌, sym, ap, ◌∙◌}
use mathlib.Core.Bool.{Bool, not}
use mathlib.Core.List.{List}
use native.Mathlib.Omega.{arith}
use borrow.Author.Tests.{eq-eqb, ne_eqb, lt-ltb, le-ltb}
use lib.ListN.{length, get_or}
use Rattle.std.specs.declared.result.Result.TheVariants.{Ok, Err}
use Rattle.answers.specs.Answer.{Answer}
use Rattle.answers.specs.Answer.{Accepted, RootMismatch, CongruenceMismatch}
use Rattle.lists.proofs.First.{first-le}
use Rattle.lowering.specs.Roots.{Pair, pair, root_at, read_pairs, call_pairs, read_root, call_root, bad_lead, bad_cong}
use Rattle.lowering.specs.Lowering.{TargetGraph, Entries}
use Rattle.lowering.specs.Check.{first_refusal, root_answers}
use Rattle.pairs.specs.Walk.{walked}
use Rattle.pairs.proofs.Inside.{walked-ok, walked-err}

module _ (tr : List ℕ) (test : ℕ → Pair → Bool) (from : ℕ) (ps : List Pair) where
  abbrev bad : ℕ
  bad = bad_cong tr test from ps

  -- a walk's result: some root is missing, and where; or all stand, and what comes after them
  missing : (at : ℕ) → Err at ≡ walked tr test from ps → (bad < length ps) × (at ≡ from + bad)
  missing at e =
      let l : bad ≤ length ps = first-le (λ q. not (root_at tr test (from + q) (get_or ps q (pair 0 0)))) (length ps) in
      let (k, is) = walked-err tr test from ps at e in
      (omega (arith, k), is)

  standing : (next : ℕ) → Ok next ≡ walked tr test from ps → (length ps ≤ bad) × (next ≡ from + length ps)
  standing next e =
      let (k, is) = walked-ok tr test from ps next e in
      (omega arith, is ∙ ap (λ (z : ℕ). from + z) k)

-- the steps of the code on plain lists: what each call has answered
module _ (E : Entries) (T : TargetGraph) (ws map er tr : List ℕ) (lead : ℕ) (leading : lead ≡ bad_lead map er tr) where
  abbrev ps : List Pair
  ps = read_pairs E.reads T.rows T.bits

  abbrev qs : List Pair
  qs = call_pairs E.calls E.cargs ws

  abbrev answer : Answer
  answer = first_refusal (root_answers E T ws map er tr)

  pub lead-12 : lead < length er → RootMismatch lead ≡ answer
  unfolding first_refusal
  lead-12 h = let k : bad_lead map er tr < length er = rw leading at h in rw (lt-ltb _ _ k, leading)

  module _ (h : length er ≤ lead) where
    led : length er ≤ bad_lead map er tr
    led = rw leading at h

    pub read-13 : (at : ℕ) → Err at ≡ walked tr (read_root E.reads T.rows) (length er) ps → CongruenceMismatch at ≡ answer
    unfolding first_refusal
    read-13 at reads = let (m, e) = missing tr _ _ ps at reads in rw (le-ltb _ _ led, lt-ltb _ _ m, e)

    module _ (a : ℕ) (reads : Ok a ≡ walked tr (read_root E.reads T.rows) (length er) ps) where
      read-roots : (length ps ≤ bad_cong tr (read_root E.reads T.rows) (length er) ps) × (a ≡ length er + length ps)
      read-roots = standing tr _ _ ps a reads

      pub call-13 : (at : ℕ) → Err at ≡ walked tr (call_root E.calls E.cargs T.rows) a qs → CongruenceMismatch at ≡ answer
      unfolding first_refusal
      call-13 at calls =
          let (m, e) = missing tr _ _ qs at (rw read-roots.1 at calls) in rw (le-ltb _ _ led, le-ltb _ _ read-roots.0, lt-ltb _ _ m, e)

      module _ (u : ℕ) (calls : Ok u ≡ walked tr (call_root E.calls E.cargs T.rows) a qs) where
        call-roots : (length qs ≤ bad_cong tr (call_root E.calls E.cargs T.rows) (length er + length ps) qs)
            × (u ≡ length er + length ps + length qs)
        call-roots = standing tr _ _ qs u (rw read-roots.1 at calls)

        pub surplus-12 : (u ≡ length tr → ⊥) → RootMismatch 0 ≡ answer
        unfolding first_refusal
        surplus-12 s =
            rw (le-ltb _ _ led, le-ltb _ _ read-roots.0, le-ltb _ _ call-roots.0, ne_eqb _ _ (λ z. s (call-roots.1 ∙ sym z)))

        pub roots-good : u ≡ length tr → Accepted ≡ answer
        unfolding first_refusal
        roots-good s = rw (le-ltb _ _ led, le-ltb _ _ read-roots.0, le-ltb _ _ call-roots.0, eq-eqb _ _ (sym s ∙ call-roots.1))
