-- How a source row is matched with its image, and the classes that follow (01, 'How a row is matched'). Assumes nothing.
use Rattle.std.specs.Prelude.{ℕ, zero, suc, ◌+◌, Bool, false, cond, not, List, [], ◌∷◌, eqb, ltb, leb, length, get_or, set}
use Rattle.answers.specs.Answer.{Answer}
use Rattle.answers.specs.Answer.{Accepted, MapOutOfRange, VarClass, ConstMismatch, NodeMismatch, ChainMismatch, CallMismatch}
use Rattle.answers.specs.Answer.{is_accepted}
use Rattle.lists.specs.First.{first}
use Rattle.lists.specs.Tests.{all, agree}
use Rattle.lists.specs.Trace.{trace}
use Rattle.rows.specs.declared.Graph.TheVariants.{Source, Target}
use Rattle.rows.specs.declared.Node.{Node}
use Rattle.rows.specs.declared.Node.TheVariants.{Var, Const, Un, Bin, Extract, Extend, Ite, Select, Call, Unknown}
use Rattle.rows.specs.Row.{MAX, row_count, row_at}
use Rattle.rows.specs.Tags.{t_ite, t_eq, either}
use Rattle.rows.specs.Node.{node_of}
use Rattle.lowering.specs.declared.Walk.{Walk}
use Rattle.lowering.specs.declared.Walk.TheVariants.{RanOut, Met, Lost}
use Rattle.lowering.specs.Lowering.{SourceGraph, Binding}
use Rattle.lowering.specs.Images.{map_at, map_node, row_is, tag_at, field_at, both_const, same_const}

-- target row r is Eq(a, b)
unfoldable pub is_eq : List ℕ → ℕ → ℕ → ℕ → Bool
is_eq target a b r = all (ltb r (row_count Target target) ∷ row_is (row_at Target target r) (Bin t_eq a b) ∷ [])

-- "Ite(Eq(mapped pair index, mapped select index), mapped value, rest)"; the rest is the row's third field
unfoldable pub is_level : List ℕ → ℕ → ℕ → ℕ → ℕ → Bool
is_level target a b v r =
    all
    (ltb r (row_count Target target)
    ∷ eqb (tag_at target r) t_ite
    ∷ eqb (field_at target r 2) v
    ∷ is_eq target a b (field_at target r 1)
    ∷ [])

-- "the walk starts at the image and takes the pairs first to last": from row r, for a select index j, along k pairs of the side list from s on.
-- "If pair index and select index are both constants, unequal ones are passed over. A pair of equal constants ends the walk there"
unfoldable pub walk : SourceGraph → List ℕ → List ℕ → ℕ → ℕ → ℕ → ℕ → Walk
walk S map target j zero s r = RanOut r
walk S map target j (suc k) s r =
    let p = get_or S.side s 0 in
    let v = get_or S.side (s + 1) 0 in
    let row = row_at Source S.rows in
    cond (both_const (row p) (row j))
    (cond (same_const S.bits (row p) S.bits (row j)) (Met r v) (walk S map target j k (s + 2) r))
    (cond (is_level target (map_at map p) (map_at map j) (map_at map v) r) (walk S map target j k (s + 2) (field_at target r 3)) Lost)

-- what is noted of the target's rows: "Each target row has a class", and an entry's variable its "word offset in its table, else 0"
pub record Noted : Type 0 where
  pub classes : List ℕ
  pub offsets : List ℕ

abbrev pub noted : List ℕ → List ℕ → Noted
noted cls ent = record { classes = cls; offsets = ent }

-- "the current row must be the mapped value"; "A walk that runs out needs a read variable of class 2 or 4 whose entry names this array and the
-- mapped index". The entry is found by its offset, which lies in the table
unfoldable pub end_good : List ℕ → List ℕ → List ℕ → Noted → ℕ → ℕ → Walk → Bool
end_good map reads target N a j (RanOut r) =
    let o = get_or N.offsets r 0 in
    all
    (ltb r (row_count Target target)
    ∷ either (get_or N.classes r 0) 2 4
    ∷ leb (o + 3) (length reads)
    ∷ eqb (get_or reads (o + 1) 0) a
    ∷ eqb (get_or reads (o + 2) 0) (map_at map j)
    ∷ [])
end_good map reads target N a j (Met r v) = eqb r (map_at map v)
end_good map reads target N a j Lost = false

-- the image of argument l of a Call whose arguments stand in the side list from s on
abbrev pub mapped_arg : List ℕ → List ℕ → ℕ → ℕ → ℕ
mapped_arg map side s l = map_at map (get_or side (s + l) 0)

-- "image is a Var of the call's width, class 3 or 5, its entry naming function, count and mapped arguments", here xs; entry and arguments lie in
-- their lists
unfoldable pub call_matches : List ℕ → List ℕ → List ℕ → Noted → ℕ → ℕ → ℕ → (ℕ → ℕ) → ℕ → Bool
call_matches calls cargs target N f w k xs r =
    let o = get_or N.offsets r 0 in
    all
    (row_is (row_at Target target r) (Var w)
    ∷ either (get_or N.classes r 0) 3 5
    ∷ leb (o + 4) (length calls)
    ∷ eqb (get_or calls (o + 1) 0) f
    ∷ eqb (get_or calls (o + 3) 0) k
    ∷ leb (get_or calls (o + 2) 0 + k) (length cargs)
    ∷ agree xs (λ l. get_or cargs (get_or calls (o + 2) 0 + l) 0) k
    ∷ [])

-- "Var: image is a Var of that width in class 0"
unfoldable pub var_matches : List ℕ → List ℕ → ℕ → ℕ → Bool
var_matches target cls w r = all (row_is (row_at Target target r) (Var w) ∷ eqb (get_or cls r 0) 0 ∷ [])

-- "Other core rows: image equals the mapped row"
unfoldable pub node_matches : List ℕ → List ℕ → Node → ℕ → Bool
node_matches map target node r = row_is (row_at Target target r) (map_node map node)

abbrev pub matched : Bool → Answer → Answer
matched b refusal = cond b Accepted refusal

-- the walk of a Select with image r
abbrev pub select_walk : Binding → ℕ → ℕ → ℕ → ℕ → Walk
select_walk B r j s k = walk B.source B.map B.target.rows j k s r

-- how a row is matched: as a Var, a Const, one of the "Other core rows", a Select, a Call; an unknown tag matches nothing
pub data Kind : Type 0 where
  var : ℕ → Kind
  const : Kind
  core : Node → Kind
  select : ℕ → ℕ → ℕ → ℕ → Kind
  call : ℕ → ℕ → ℕ → ℕ → Kind
  unknown : Kind

abbrev pub kind_of : Node → Kind
kind_of (Var w) = var w
kind_of (Const s w) = const
kind_of (Un t a) = core (Un t a)
kind_of (Bin t a b) = core (Bin t a b)
kind_of (Extract h l a) = core (Extract h l a)
kind_of (Extend t a n) = core (Extend t a n)
kind_of (Ite c t e) = core (Ite c t e)
kind_of (Select a j s k) = select a j s k
kind_of (Call f w s k) = call f w s k
kind_of Unknown = unknown

-- the answer for source row i, of a kind and with image r: 7 to 11
abbrev pub kind_answer : Binding → Noted → ℕ → ℕ → Kind → Answer
kind_answer B N i r (var w) = matched (var_matches B.target.rows N.classes w r) (VarClass i)
kind_answer B N i r const =
    matched (same_const B.source.bits (row_at Source B.source.rows i) B.target.bits (row_at Target B.target.rows r)) (ConstMismatch i)
kind_answer B N i r (core node) = matched (node_matches B.map B.target.rows node r) (NodeMismatch i)
kind_answer B N i r (select a j s k) = matched (end_good B.map B.reads B.target.rows N a j (select_walk B r j s k)) (ChainMismatch i)
kind_answer B N i r (call f w s k) =
    matched (call_matches B.calls B.cargs B.target.rows N f w k (mapped_arg B.map B.source.side s) r) (CallMismatch i)
kind_answer B N i r unknown = NodeMismatch i

abbrev pub node_answer : Binding → Noted → ℕ → ℕ → Node → Answer
node_answer B N i r node = kind_answer B N i r (kind_of node)

-- "A row mapped to MAX is skipped"; 4: mapped past the target
unfoldable pub row_answer : Binding → Noted → ℕ → Answer
row_answer B N i =
    let r = map_at B.map i in
    cond (eqb r MAX) Accepted
    (cond (ltb r (row_count Target B.target.rows)) (node_answer B N i r (node_of (row_at Source B.source.rows i))) (MapOutOfRange i))

-- the classes after a walk: the read variable "becomes 4"
abbrev pub end_classes : List ℕ → Walk → List ℕ
end_classes cls (RanOut r) = set cls r 4
end_classes cls (Met r v) = cls
end_classes cls Lost = cls

-- the classes after a row of a kind with image r: a variable's "becomes class 1", a call's "becomes 5"
abbrev pub kind_classes : Binding → List ℕ → ℕ → Kind → List ℕ
kind_classes B cls r (var w) = set cls r 1
kind_classes B cls r const = cls
kind_classes B cls r (core node) = cls
kind_classes B cls r (select a j s k) = end_classes cls (select_walk B r j s k)
kind_classes B cls r (call f w s k) = set cls r 5
kind_classes B cls r unknown = cls

abbrev pub node_classes : Binding → List ℕ → ℕ → Node → List ℕ
node_classes B cls r node = kind_classes B cls r (kind_of node)

unfoldable pub row_classes : Binding → ℕ → List ℕ → List ℕ
row_classes B i cls = cond (eqb (map_at B.map i) MAX) cls (node_classes B cls (map_at B.map i) (node_of (row_at Source B.source.rows i)))

-- "Rows go in order": the classes before row n, where cls are those before the rows
abbrev pub classes_to : Binding → List ℕ → ℕ → List ℕ
classes_to B cls n = trace (row_classes B) cls n

-- what is noted before row n
abbrev pub noted_to : Binding → Noted → ℕ → Noted
noted_to B N n = noted (classes_to B N.classes n) N.offsets

-- the first row that is refused, or the number of rows
abbrev pub refused_row : Binding → Noted → ℕ
refused_row B N = first (λ i. not (is_accepted (row_answer B (noted_to B N i) i))) (row_count Source B.source.rows)

-- the answer of all rows: the first refusal
abbrev pub all_rows_answer : Binding → Noted → Answer
all_rows_answer B N = let i = refused_row B N in cond (ltb i (row_count Source B.source.rows)) (row_answer B (noted_to B N i) i) Accepted

-- "Afterwards no class may be 2 or 3": the first variable of such a class, or the number of rows
abbrev pub dead_entry : List ℕ → ℕ → ℕ
dead_entry cls n = first (λ j. either (get_or cls j 0) 2 3) n
