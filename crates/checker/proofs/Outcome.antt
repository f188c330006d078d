-- The outcome of Check and of the strict check, refusal by refusal, and what each step promises the next. Assumes nothing.
use Prim.Native.Nat.{ℕ, ◌*◌, ◌-◌, ◌≤◌}
use mathlib.Core.Path.{◌≡◌, refl, sym, ap, ◌∙◌}
use mathlib.Core.Bool.{Bool, true, false}
use mathlib.Core.List.{List, [], ◌∷◌, ◌++◌}
use borrow.Author.Tests.{ltb-false}
use lib.Dec.{ltb}
use lib.ListN.{length, replicate, take, length-replicate}
use Rattle.sorts.specs.Sorts.{Sorts, plain, sort_answer}
use Rattle.sorts.specs.Good.{Good}
use Rattle.answers.specs.Answer.{Answer}
use Rattle.answers.specs.Answer.{WorkShort}
use Rattle.answers.specs.Answer.{is_accepted, keeps, and_then}
use Rattle.answers.specs.Result.{Result, result_of, left, leaves}
use Rattle.rows.specs.declared.Graph.{Graph}
use Rattle.rows.specs.declared.Graph.TheVariants.{Source, Target}
use Rattle.rows.specs.Row.{row_count}
use Rattle.wf.specs.Widths.{widths}
use Rattle.wf.proofs.Promise.{well-formed}
use Rattle.lowering.specs.Tables.{read_count, read_var, call_count, call_var, read_offsets}
use Rattle.lowering.specs.Lowering.{array_sorts, Lowering, source_rows, target_rows}
use Rattle.lowering.specs.Check.{widths_of_source, widths_of_target, source_ill, target_ill, no_classes, classes_of_reads, classes, offsets, refuse}
use Rattle.lowering.specs.Check.{first_refusal, count_answers, forms_of, bit_answers, form_answers, match_answers, check_answer_by, check_by}
use Rattle.lowering.proofs.Classes.{classes-keep-length}
use Rattle.lowering.proofs.Inversion.{Each, each, each_append, none-refused, not-refused}
use Rattle.lowering.proofs.Marks.{marks-length}
use Rattle.lowering.proofs.Refusals.{refusal-append}
use Rattle.matching.specs.Ready.{Formed}
use Rattle.forms.proofs.Form.{width-count, widths-front, table-good, no-stop-source, no-stop-target}
use Rattle.checker.proofs.Keeps.{keeps-count, keeps-forms, keeps-match}

-- cleared after the last row
pub widths-cleared : (σ : Sorts) (graph : Graph) (nbits n k : ℕ) (side g ws rest after : List ℕ) → n ≡ row_count graph g
    → ws ≡ widths σ graph nbits side g ++ rest → length ws ≡ k
    → after ≡ take n ws ++ replicate (length ws - n) 0 → after ≡ widths σ graph nbits side g ++ replicate (k - row_count graph g) 0
widths-cleared σ graph nbits n k side g ws rest after e q l f = f ∙ rw (widths-front σ graph nbits n side g ws rest e q, l, e)

module _ (strict : Bool) (L : Lowering) (ws0 ws1 cls ent : List ℕ) where
  abbrev pub counts : Answer
  counts = first_refusal (count_answers L.source L.target (length ws0) (length ws1) (length cls) (length ent))

  abbrev pub forms : Answer
  forms = first_refusal (form_answers strict L.edition L.source L.target L.eroots L.troots)

  abbrev pub matching : Answer
  matching = first_refusal (match_answers L)

  abbrev pub whole : Answer
  whole = check_answer_by strict L (length ws0) (length ws1) (length cls) (length ent)

  pub whole_is : whole ≡ and_then counts (and_then forms matching)
  whole_is =
      refusal-append (count_answers L.source L.target (length ws0) (length ws1) (length cls) (length ent))
      (form_answers strict L.edition L.source L.target L.eroots L.troots ++ match_answers L)
      ∙ ap (and_then counts) (refusal-append (form_answers strict L.edition L.source L.target L.eroots L.troots) (match_answers L))

  -- after the counts no refusal is one that writes nothing
  pub keeps-rest : is_accepted counts ≡ true → keeps whole ≡ false
  keeps-rest c =
      whole-keeps (is_accepted forms) refl
    where
      whole-keeps : (b : Bool) → is_accepted forms ≡ b → keeps whole ≡ false
      whole-keeps true e = rw (whole_is, c, e) (keeps-match L)
      whole-keeps false e = rw (whole_is, c, e) (keeps-forms strict L.edition L.source L.target L.eroots L.troots)

  -- the four lists with what acceptance writes; what a refusal leaves that zeroes them
  abbrev pub four : List (List ℕ × List ℕ)
  four = (ws0, widths_of_source L) ∷ (ws1, widths_of_target L) ∷ (cls, classes L (source_rows L)) ∷ (ent, offsets L) ∷ []

  abbrev cleared : List (List ℕ)
  cleared = replicate (length ws0) 0 ∷ replicate (length ws1) 0 ∷ replicate (length cls) 0 ∷ replicate (length ent) 0 ∷ []

  settle : (a : Answer) (lists : List (List ℕ)) → whole ≡ a → left a four ≡ lists → result_of a lists ≡ check_by strict L ws0 ws1 cls ent
  settle a lists e f = sym (ap (λ (z : Answer). leaves z four) e ∙ ap (result_of a) f)

  module _ (a : Answer) where
    zeroed : whole ≡ a → is_accepted a ≡ false → keeps a ≡ false → result_of a cleared ≡ check_by strict L ws0 ws1 cls ent
    zeroed e n k = settle a cleared e (rw (n, k))

    pub count-done : a ≡ counts → is_accepted a ≡ false → result_of a (ws0 ∷ ws1 ∷ cls ∷ ent ∷ []) ≡ check_by strict L ws0 ws1 cls ent
    count-done e n =
        let r : is_accepted counts ≡ false = rw e at n in
        let k : keeps a ≡ true = rw e (keeps-count L.source L.target (length ws0) (length ws1) (length cls) (length ent) r) in
        settle a _ (whole_is ∙ rw r (sym e)) (rw (n, k))

    module _ (c : is_accepted counts ≡ true) where
      pub graph-done : a ≡ forms → is_accepted a ≡ false → result_of a cleared ≡ check_by strict L ws0 ws1 cls ent
      graph-done e n =
          zeroed (whole_is ∙ rw (c, rw e at n) (sym e)) n
          (rw e (keeps-forms strict L.edition L.source L.target L.eroots L.troots))

      module _ (g : is_accepted forms ≡ true) where
        pub match-done : a ≡ matching → is_accepted a ≡ false → result_of a cleared ≡ check_by strict L ws0 ws1 cls ent
        match-done e n = zeroed (whole_is ∙ rw (c, g) (sym e)) n (rw e (keeps-match L))

        pub accept-done : a ≡ matching → is_accepted a ≡ true
            → result_of a ((widths_of_source L ++ replicate (length ws0 - source_rows L) 0) ∷ (widths_of_target L ++ replicate
            (length ws1 - target_rows L) 0)
            ∷ (classes L (source_rows L) ++ replicate (length cls - target_rows L) 0) ∷ (offsets L ++ replicate (length ent - target_rows L) 0) ∷ [])
            ≡ check_by strict L ws0 ws1 cls ent
        accept-done e n =
            let s = width-count (array_sorts L) Source (length L.source.bits) L.source.side L.source.rows in
            let t = width-count plain Target (length L.target.bits) [] L.target.rows in
            settle a _ (whole_is ∙ rw (c, g) (sym e)) (rw (n, s, t, class-count, offset-count))
          where
            class-count : length (classes L (source_rows L)) ≡ target_rows L
            class-count =
                classes-keep-length L (source_rows L)
                ∙ marks-length (call_var L.calls) (λ k. 3) (classes_of_reads L) (call_count L.calls)
                ∙ marks-length (read_var L.reads) (λ k. 2) (no_classes L) (read_count L.reads)
                ∙ length-replicate {A = ℕ} (target_rows L) 0

            offset-count : length (offsets L) ≡ target_rows L
            offset-count =
                marks-length (call_var L.calls) (λ k. k * 4) (read_offsets L.reads (no_classes L) (read_count L.reads)) (call_count L.calls)
                ∙ marks-length (read_var L.reads) (λ k. k * 3) (no_classes L) (read_count L.reads)
                ∙ length-replicate {A = ℕ} (target_rows L) 0

  -- counts that pass give room
  module _ (c : is_accepted counts ≡ true) where
    room : (k b n : ℕ) → is_accepted (refuse (ltb b n) (WorkShort k)) ≡ true → n ≤ b
    room k b n e = ltb-false b n (not-refused (ltb b n) (WorkShort k) refl e)

    tests : Each (count_answers L.source L.target (length ws0) (length ws1) (length cls) (length ent))
    tests = each _ c

    pub room_0 : source_rows L ≤ length ws0
    room_0 = let (_, (_, (w0, _))) = tests in room 1 (length ws0) (source_rows L) w0

    pub room-1 : target_rows L ≤ length ws1
    room-1 = let (_, (_, (_, (w1, _)))) = tests in room 2 (length ws1) (target_rows L) w1

    pub room-2 : target_rows L ≤ length cls
    room-2 = let (_, (_, (_, (_, (c, _))))) = tests in room 3 (length cls) (target_rows L) c

    pub room-3 : target_rows L ≤ length ent
    room-3 = let (_, (_, (_, (_, (_, (e, _)))))) = tests in room 4 (length ent) (target_rows L) e

  -- forms that pass have a good table, and are well formed
  abbrev graphs : List Answer
  graphs = forms_of L.edition L.source L.target

  graphs-pass : is_accepted forms ≡ true → is_accepted (first_refusal graphs) ≡ true
  graphs-pass f =
      none-refused graphs (each_append graphs (bit_answers strict (widths_of_source L) L.eroots (widths_of_target L) L.troots) (each _ f)).0

  pub forms-sorted : is_accepted forms ≡ true → Good L.edition
  forms-sorted f =
      table-good (sort_answer L.edition) L.source L.target (source_ill (array_sorts L) L.source) (target_ill L.target) (graphs-pass f)

  pub forms-formed : is_accepted forms ≡ true → Formed L.source L.target
  forms-formed f =
      let g = graphs-pass f in
      record {
        sorts = array_sorts L;
        source-formed =
            well-formed (array_sorts L) Source (length L.source.bits) L.source.side L.source.rows
            (no-stop-source (sort_answer L.edition) L.source L.target (source_ill (array_sorts L) L.source) (target_ill L.target) g);
        target-formed =
            well-formed plain Target (length L.target.bits) [] L.target.rows
            (no-stop-target (sort_answer L.edition) L.source L.target (source_ill (array_sorts L) L.source) (target_ill L.target) g);
      }

-- a result by its lists
pub by-lists : (a : Answer) (x0 x1 x2 x3 y0 y1 y2 y3 : List ℕ) (z : Result) → x0 ≡ y0 → x1 ≡ y1 → x2 ≡ y2 → x3 ≡ y3
    → result_of a (y0 ∷ y1 ∷ y2 ∷ y3 ∷ []) ≡ z → result_of a (x0 ∷ x1 ∷ x2 ∷ x3 ∷ []) ≡ z
by-lists a x0 x1 x2 x3 y0 y1 y2 y3 z e f g h k = rw (e, f, g, h) k

-- so many zeros
pub zeros-long : (x : List ℕ) (k n : ℕ) → x ≡ replicate n 0 → n ≡ k → x ≡ replicate k 0
zeros-long x k n e l = e ∙ rw l
