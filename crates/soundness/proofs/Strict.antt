-- The strict check beside Check: unless it answers 19 it answers what Check answers, and where it accepts the two leave the same. Assumes nothing.
use Prim.Native.Nat.{ℕ}
use mathlib.Core.Path.{◌≡◌, refl, sym, ap, ◌∙◌}
use mathlib.Core.Bool.{Bool, true, false, cond}
use mathlib.Core.Logic.{◌⊎◌, inl, inr}
use mathlib.Core.List.{List, [], ◌∷◌, ◌++◌}
use lib.Dec.{eqb, ltb}
use lib.ListN.{length}
use Rattle.answers.specs.Answer.{Answer}
use Rattle.answers.specs.Answer.{Accepted, BadRoot}
use Rattle.answers.proofs.Numbers.{accepted-number}
use Rattle.answers.specs.Answer.{words_of, is_accepted, and_then}
use Rattle.answers.specs.Result.{leaves}
use Rattle.lists.proofs.Choice.{no_way}
use Rattle.wf.specs.Widths.{bad_root}
use Rattle.lowering.specs.Lowering.{Lowering, source_rows}
use Rattle.lowering.specs.Check.{widths_of_source, widths_of_target, classes, offsets, refuse, first_refusal, count_answers, forms_of, bit_answers}
use Rattle.lowering.specs.Check.{match_answers}
use Rattle.lowering.specs.Check.{check_answer, check_answer_by, check, strict_check}
use Rattle.lowering.proofs.Refusals.{refusal-append}

module _ (L : Lowering) (w0 w1 c e : ℕ) where
  abbrev counts : Answer
  counts = first_refusal (count_answers L.source L.target w0 w1 c e)

  abbrev graphs : Answer
  graphs = first_refusal (forms_of L.edition L.source L.target)

  abbrev bits : Bool → Answer
  bits strict = first_refusal (bit_answers strict (widths_of_source L) L.eroots (widths_of_target L) L.troots)

  abbrev rest : Answer
  rest = first_refusal (match_answers L)

  -- the roots' widths are asked about between the graphs and the rest, and by Check not at all
  by_parts : (strict : Bool) → check_answer_by strict L w0 w1 c e ≡ and_then counts (and_then graphs (and_then (bits strict) rest))
  by_parts strict =
      let gs = forms_of L.edition L.source L.target in
      let bs = bit_answers strict (widths_of_source L) L.eroots (widths_of_target L) L.troots in
      refusal-append (count_answers L.source L.target w0 w1 c e) (gs ++ (bs ++ match_answers L))
      ∙ ap (and_then counts) (refusal-append gs (bs ++ match_answers L) ∙ ap (and_then graphs) (refusal-append bs (match_answers L)))

  not-asked : bits false ≡ Accepted
  unfolding first_refusal
  not-asked = refl

  -- the roots' widths pass, or the number is 19
  bits-or-19 : (is_accepted (bits true) ≡ true) ⊎ ((words_of (bits true)).number ≡ 19)
  unfolding first_refusal
  bits-or-19 =
      go (ltb (bad_root (widths_of_source L) L.eroots) (length L.eroots)) (ltb (bad_root (widths_of_target L) L.troots) (length L.troots))
    where
      go : (s t : Bool)
          → (let a = refuse s (BadRoot (bad_root (widths_of_source L) L.eroots) 1) in
          let b = refuse t (BadRoot (bad_root (widths_of_target L) L.troots) 2) in
          let both = cond (is_accepted a) (cond (is_accepted b) Accepted b) a in
          (is_accepted both ≡ true) ⊎ ((words_of both).number ≡ 19))
      go true t = inr refl
      go false true = inr refl
      go false false = inl refl

  -- "It looks at source roots, then target roots, with 19 .. directly after target well-formedness" (02, 2.6), and at nothing else
  pub strict-or-19 : (check_answer_by true L w0 w1 c e ≡ check_answer L w0 w1 c e) ⊎ ((words_of (check_answer_by true L w0 w1 c e)).number ≡ 19)
  strict-or-19 = go (is_accepted counts) refl (is_accepted graphs) refl bits-or-19
    where
      refused : (words_of (bits true)).number ≡ 19 → is_accepted (bits true) ≡ false
      refused number = accepted-number _ ∙ ap (λ (n : ℕ). eqb n 0) number

      go : (x : Bool) → is_accepted counts ≡ x → (y : Bool) → is_accepted graphs ≡ y
          → (is_accepted (bits true) ≡ true) ⊎ ((words_of (bits true)).number ≡ 19)
          → (check_answer_by true L w0 w1 c e ≡ check_answer L w0 w1 c e) ⊎ ((words_of (check_answer_by true L w0 w1 c e)).number ≡ 19)
      go false p y q o = inl (rw (by_parts true, by_parts false, p))
      go true p false q o = inl (rw (by_parts true, by_parts false, p, q))
      go true p true q (inl o) = inl (rw (by_parts true, by_parts false, not-asked, p, q, o))
      go true p true q (inr o) = inr (rw (by_parts true, p, q, refused o) o)

-- what the strict check accepts, Check accepts, and both leave the same lists
pub strict-leaves : (L : Lowering) (ws0 ws1 cls ent : List ℕ) → is_accepted (strict_check L ws0 ws1 cls ent).answer ≡ true
    → strict_check L ws0 ws1 cls ent ≡ check L ws0 ws1 cls ent
strict-leaves L ws0 ws1 cls ent accepts = go (strict-or-19 L (length ws0) (length ws1) (length cls) (length ent))
  where
    strict : Answer
    strict = check_answer_by true L (length ws0) (length ws1) (length cls) (length ent)

    go : (strict ≡ check_answer L (length ws0) (length ws1) (length cls) (length ent)) ⊎ ((words_of strict).number ≡ 19)
        → strict_check L ws0 ws1 cls ent ≡ check L ws0 ws1 cls ent
    go (inl same) =
        ap (λ (a : Answer). leaves a ((ws0, widths_of_source L) ∷ (ws1, widths_of_target L) ∷ (cls, classes L (source_rows L)) ∷ (ent, offsets L) ∷
        []))
        same
    go (inr number) = no_way (sym accepts ∙ accepted-number _ ∙ ap (λ (n : ℕ). eqb n 0) number)
