-- An accepted Check has passed each of its tests, the strict one also those of its roots. The tests of each named list are taken apart in its order.
-- Assumes nothing.
use Prim.Native.Nat.{ℕ}
use mathlib.Core.Path.{refl}
use mathlib.Core.Bool.{Bool, true}
use mathlib.Core.List.{List, ◌++◌}
use native.Mathlib.Omega.{arith}
use borrow.Author.Tests.{eqb-true, ltb-false, not-false}
use lib.ListN.{length}
use Rattle.answers.specs.Answer.{Answer}
use Rattle.lowering.specs.Lowering.{Lowering, source_rows}
use Rattle.lowering.specs.Check.{widths_of_source, widths_of_target, answer_of}
use Rattle.lowering.specs.Check.{count_answers, forms_of, bit_answers, form_answers, match_answers}
use Rattle.lowering.proofs.Inversion.{Each, each, each_append, not-refused, all-fail, all_pass, first-refused}
use Rattle.soundness.specs.Sound.{AcceptsBy, StrictlyAccepts}
use Rattle.soundness.specs.Passed.{Passed, OneBit}

module _ (strict : Bool) (L : Lowering) (ws0 ws1 cls ent : List ℕ) (accepts : AcceptsBy strict L ws0 ws1 cls ent) where
  abbrev counts : List Answer
  counts = count_answers L.source L.target (length ws0) (length ws1) (length cls) (length ent)

  abbrev graphs : List Answer
  graphs = forms_of L.edition L.source L.target

  abbrev bits : List Answer
  bits = bit_answers strict (widths_of_source L) L.eroots (widths_of_target L) L.troots

  abbrev forms : List Answer
  forms = form_answers strict L.edition L.source L.target L.eroots L.troots

  -- the counts; the graphs, then the roots' widths; the rest
  counts-pass : Each counts × Each (forms ++ match_answers L)
  counts-pass = each_append counts (forms ++ match_answers L) (each _ accepts)

  forms-pass : Each forms × Each (match_answers L)
  forms-pass = each_append forms (match_answers L) counts-pass.1

  graphs-pass : Each graphs × Each bits
  graphs-pass = each_append graphs bits forms-pass.0

  pub passed : Passed L
  passed =
      let (erows, (trows, (ebits, (tbits, (_, (eform, (tform, _))))))) = graphs-pass.0 in
      let (map, (reads, (calls, (rows, (dead, (lead, (rroots, (croots, (surplus, _))))))))) = forms-pass.1 in
      record {
        source-rows = ltb-false _ _ (not-refused _ _ refl erows);
        target-rows = ltb-false _ _ (not-refused _ _ refl trows);
        source-bits = ltb-false _ _ (not-refused _ _ refl ebits);
        target-bits = ltb-false _ _ (not-refused _ _ refl tbits);
        source-formed = ltb-false _ _ (not-refused _ _ refl eform);
        target-formed = ltb-false _ _ (not-refused _ _ refl tform);
        map-length = eqb-true _ _ (not-false _ (not-refused _ _ refl map));
        reached = record {
          inside = omega arith;
          reads = all_pass _ _ (not-refused _ _ refl reads);
          calls = all_pass _ _ (not-refused _ _ refl calls);
          rows = all_pass _ _ (first-refused (answer_of L) (source_rows L) _ refl rows);
        };
        live = all-fail _ _ (not-refused _ _ refl dead);
        leading = all_pass _ _ (not-refused _ _ refl lead);
        read-roots = all_pass _ _ (not-refused _ _ refl rroots);
        call-roots = all_pass _ _ (not-refused _ _ refl croots);
        roots-end = eqb-true _ _ (not-false _ (not-refused _ _ refl surplus));
      }

-- the roots of what is strictly accepted
pub one_bit : (L : Lowering) (ws0 ws1 cls ent : List ℕ) → StrictlyAccepts L ws0 ws1 cls ent → OneBit L
one_bit L ws0 ws1 cls ent accepts =
    let (source, (target, _)) = (graphs-pass true L ws0 ws1 cls ent accepts).1 in
    record { source-roots = all_pass _ _ (not-refused _ _ refl source); target-roots = all_pass _ _ (not-refused _ _ refl target) }
