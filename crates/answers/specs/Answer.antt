-- Answers, and what each leaves in a lent list (01, 'Operations and what they refuse'). Assumes nothing.
use Rattle.std.specs.Prelude.{ℕ, ◌-◌, Bool, false, cond, List, ◌++◌, length, replicate, Result, Ok, Err, is_ok}
use Rattle.answers.specs.declared.Refusal.{Refusal}
use Rattle.answers.specs.declared.Refusal.TheVariants as why
use Rattle.answers.specs.declared.Words.{Words}
use Rattle.answers.specs.Refusal.{words, words_of_refusal, writes_nothing}

-- acceptance, or why it is refused
abbrev pub Answer : Type 0
Answer = Result (Unit {0}) Refusal

abbrev pub Accepted : Answer
Accepted = Ok tt

-- each refusal as an answer
abbrev pub Ext : ℕ → Answer
Ext row = Err (why.Ext row)

abbrev pub Core : ℕ → Answer
Core row = Err (why.Core row)

abbrev pub MapLength : ℕ → ℕ → Answer
MapLength expected found = Err (why.MapLength expected found)

abbrev pub MapOutOfRange : ℕ → Answer
MapOutOfRange row = Err (why.MapOutOfRange row)

abbrev pub ReadTable : ℕ → Answer
ReadTable entry = Err (why.ReadTable entry)

abbrev pub CallTable : ℕ → Answer
CallTable entry = Err (why.CallTable entry)

abbrev pub VarClass : ℕ → Answer
VarClass row = Err (why.VarClass row)

abbrev pub ConstMismatch : ℕ → Answer
ConstMismatch row = Err (why.ConstMismatch row)

abbrev pub NodeMismatch : ℕ → Answer
NodeMismatch row = Err (why.NodeMismatch row)

abbrev pub ChainMismatch : ℕ → Answer
ChainMismatch row = Err (why.ChainMismatch row)

abbrev pub CallMismatch : ℕ → Answer
CallMismatch row = Err (why.CallMismatch row)

abbrev pub RootMismatch : ℕ → Answer
RootMismatch position = Err (why.RootMismatch position)

abbrev pub CongruenceMismatch : ℕ → Answer
CongruenceMismatch position = Err (why.CongruenceMismatch position)

abbrev pub DeadEntry : ℕ → Answer
DeadEntry variable = Err (why.DeadEntry variable)

abbrev pub RowCount : ℕ → Answer
RowCount graph = Err (why.RowCount graph)

abbrev pub BadRow : ℕ → ℕ → Answer
BadRow row graph = Err (why.BadRow row graph)

abbrev pub BadBit : ℕ → ℕ → Answer
BadBit position graph = Err (why.BadBit position graph)

abbrev pub WorkShort : ℕ → Answer
WorkShort list = Err (why.WorkShort list)

abbrev pub BadRoot : ℕ → ℕ → Answer
BadRoot position graph = Err (why.BadRoot position graph)

abbrev pub BookShape : ℕ → Answer
BookShape place = Err (why.BookShape place)

abbrev pub TooWide : ℕ → ℕ → Answer
TooWide row graph = Err (why.TooWide row graph)

abbrev pub ValueCount : ℕ → ℕ → Answer
ValueCount expected found = Err (why.ValueCount expected found)

abbrev pub ValueRange : ℕ → Answer
ValueRange row = Err (why.ValueRange row)

abbrev pub NoSection : Answer
NoSection = Err why.NoSection

abbrev pub CellTable : ℕ → Answer
CellTable entry = Err (why.CellTable entry)

abbrev pub FunctionCells : ℕ → Answer
FunctionCells entry = Err (why.FunctionCells entry)

abbrev pub RootFalse : ℕ → Answer
RootFalse position = Err (why.RootFalse position)

abbrev pub SortTable : ℕ → Answer
SortTable entry = Err (why.SortTable entry)

abbrev pub NoRows : ℕ → Answer
NoRows section = Err (why.NoRows section)

abbrev pub BookFull : Answer
BookFull = Err why.BookFull

abbrev pub ListShort : ℕ → Answer
ListShort list = Err (why.ListShort list)

-- "acceptance is number 0"
abbrev pub words_of : Answer → Words
words_of (Ok _) = words 0 0 0
words_of (Err refusal) = words_of_refusal refusal

abbrev pub is_accepted : Answer → Bool
is_accepted a = is_ok a

-- what is looked for after what an answer looked for: the first refusal counts
abbrev pub and_then : Answer → Answer → Answer
and_then a next = cond (is_accepted a) next a

-- "15 and 18 write nothing"; the late 18 zeroes
abbrev pub keeps : Answer → Bool
keeps (Ok _) = false
keeps (Err refusal) = writes_nothing refusal

-- "any other refusal zeroes all .. lists. Acceptance leaves [the list's contents], zeros after the last row":
-- what a lent list holds afterwards, by the answer, what it held and what acceptance writes
abbrev pub lent : Answer → List ℕ → List ℕ → List ℕ
lent a old new = cond (is_accepted a) (new ++ replicate (length old - length new) 0) (cond (keeps a) old (replicate (length old) 0))
