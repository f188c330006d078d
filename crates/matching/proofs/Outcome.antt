-- What the form of the graphs promises of a row, and a row's answer with the classes that it leaves. Assumes nothing.
use Prim.Native.Nat.{ℕ, ◌<◌}
use mathlib.Core.Path.{◌≡◌, sym, ◌∙◌}
use mathlib.Core.Bool.{Bool, false, cond}
use mathlib.Core.List.{List, []}
use native.Mathlib.Omega.{arith}
use lib.ListN.{length, get_or}
use Rattle.sorts.specs.Sorts.{plain}
use Rattle.answers.specs.Answer.{Answer}
use Rattle.answers.specs.Answer.{is_accepted}
use Rattle.images.specs.Bits.{BitsWithin, ConstsWithin}
use Rattle.images.proofs.Constants.{bits-within}
use Rattle.rows.specs.declared.Graph.TheVariants.{Source, Target}
use Rattle.rows.specs.Row.{row_count, row_at}
use Rattle.rows.specs.Tags.{t_var, t_const, t_select, t_call}
use Rattle.rows.specs.Node.{node_of}
use Rattle.wf.specs.Promise.{RowFormed}
use Rattle.wf.specs.Widths.{widths}
use Rattle.lowering.specs.Lowering.{SourceGraph, TargetGraph}
use Rattle.lowering.specs.Matching.{matched}
use Rattle.chains.specs.Ready.{PairsWithin}
use Rattle.applied.specs.Ready.{ArgsWithin}
use Rattle.matching.specs.Ready.{Formed}
use Rattle.matching.proofs.Rows.{Plain, const-bits, select-earlier, select-pairs, call-args, plain_row, accepted-matched}

-- row i of the source, with the words e
module _ (S : SourceGraph) (T : TargetGraph) (F : Formed S T) (i : ℕ) (h : i < row_count Source S.rows) (e : List ℕ)
    (q : e ≡ row_at Source S.rows i) where
  abbrev width : ℕ → ℕ
  width a = get_or (widths F.sorts Source (length S.bits) S.side S.rows) a 0

  row-formed : RowFormed F.sorts (length S.bits) S.side width i (node_of e)
  row-formed = rw q (F.source-formed i h)

  pub const-ready : BitsWithin S.bits e
  const-ready = const-bits (length S.bits) S.side width i e row-formed

  pub select-ready : get_or e 0 0 ≡ t_select
      → (get_or e 2 0 < row_count Source S.rows) × PairsWithin S.rows S.side (get_or e 3 0) (get_or e 4 0) × ConstsWithin Source S.bits S.rows
  select-ready t =
      let j = select-earlier (length S.bits) S.side width i e row-formed t in (
        omega (arith, j, h),
        λ l k.
            let p = select-pairs (length S.bits) S.side width i e row-formed t l k in
            let a = p.index-earlier in
            (p.within, omega (arith, a, h)),
        bits-within Source S.bits S.side S.rows (widths F.sorts Source (length S.bits) S.side S.rows) F.source-formed,
      )

  pub call-ready : get_or e 0 0 ≡ t_call → ArgsWithin S.side (get_or e 3 0) (get_or e 4 0)
  call-ready t l k = (call-args (length S.bits) S.side width i e row-formed t l k).within

  pub plain_ready : (get_or e 0 0 ≡ t_var → ⊥) → (get_or e 0 0 ≡ t_const → ⊥) → (get_or e 0 0 ≡ t_select → ⊥) → (get_or e 0 0 ≡ t_call → ⊥)
      → Plain (node_of e)
  plain_ready = plain_row (length S.bits) S.side width i e row-formed

pub consts-target : (S : SourceGraph) (T : TargetGraph) → Formed S T → ConstsWithin Target T.bits T.rows
consts-target S T F = bits-within Target T.bits [] T.rows (widths plain Target (length T.bits) [] T.rows) F.target-formed

-- a row's answer is its match, and its classes follow where it is accepted
pub outcome : (b x : Bool) (refusal a answer : Answer) (old new after classes : List ℕ) → is_accepted refusal ≡ false → b ≡ x → new ≡ cond b after old
    → a ≡ matched b refusal → answer ≡ matched x refusal → classes ≡ after → (a ≡ answer) × (new ≡ cond (is_accepted a) classes old)
outcome b x refusal a answer old new after classes n t l m p k =
    (m ∙ rw t (sym p), l ∙ rw (m, accepted-matched b refusal n, k))
