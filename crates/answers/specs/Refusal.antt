-- Refusals as numbers (01, 'Operations and what they refuse'). Assumes nothing.
use Rattle.std.specs.Prelude.{ℕ, Bool, true, false}
use Rattle.answers.specs.declared.Refusal.{Refusal}
use Rattle.answers.specs.declared.Refusal.TheVariants.{Ext, Core, MapLength, MapOutOfRange, ReadTable, CallTable, VarClass}
use Rattle.answers.specs.declared.Refusal.TheVariants.{ConstMismatch, NodeMismatch, ChainMismatch, CallMismatch, RootMismatch}
use Rattle.answers.specs.declared.Refusal.TheVariants.{CongruenceMismatch, DeadEntry, RowCount, BadRow, BadBit, WorkShort, BadRoot}
use Rattle.answers.specs.declared.Refusal.TheVariants.{BookShape, TooWide, ValueCount, ValueRange, NoSection, CellTable, FunctionCells}
use Rattle.answers.specs.declared.Refusal.TheVariants.{RootFalse, SortTable, NoRows, BookFull, ListShort}
use Rattle.answers.specs.declared.Words.{Words}

abbrev pub words : ℕ → ℕ → ℕ → Words
words n p d = record { number = n; place = p; detail = d }

-- "An answer is a number with place and detail; .. a place or detail not named is 0". `ListShort` is 02's late 18 (2.3),
-- of a list that turns out too short after it was begun
abbrev pub words_of_refusal : Refusal → Words
words_of_refusal (Ext row) = words 1 row 0
words_of_refusal (Core row) = words 2 row 0
words_of_refusal (MapLength expected found) = words 3 expected found
words_of_refusal (MapOutOfRange row) = words 4 row 0
words_of_refusal (ReadTable entry) = words 5 entry 0
words_of_refusal (CallTable entry) = words 6 entry 0
words_of_refusal (VarClass row) = words 7 row 0
words_of_refusal (ConstMismatch row) = words 8 row 0
words_of_refusal (NodeMismatch row) = words 9 row 0
words_of_refusal (ChainMismatch row) = words 10 row 0
words_of_refusal (CallMismatch row) = words 11 row 0
words_of_refusal (RootMismatch position) = words 12 position 0
words_of_refusal (CongruenceMismatch position) = words 13 position 0
words_of_refusal (DeadEntry variable) = words 14 variable 0
words_of_refusal (RowCount graph) = words 15 graph 0
words_of_refusal (BadRow row graph) = words 16 row graph
words_of_refusal (BadBit position graph) = words 17 position graph
words_of_refusal (WorkShort list) = words 18 list 0
words_of_refusal (BadRoot position graph) = words 19 position graph
words_of_refusal (BookShape place) = words 20 place 0
words_of_refusal (TooWide row graph) = words 21 row graph
words_of_refusal (ValueCount expected found) = words 22 expected found
words_of_refusal (ValueRange row) = words 23 row 0
words_of_refusal NoSection = words 24 0 0
words_of_refusal (CellTable entry) = words 25 entry 0
words_of_refusal (FunctionCells entry) = words 26 entry 0
words_of_refusal (RootFalse position) = words 27 position 0
words_of_refusal (SortTable entry) = words 28 entry 0
words_of_refusal (NoRows section) = words 29 section 0
words_of_refusal BookFull = words 30 0 0
words_of_refusal (ListShort list) = words 18 list 0

-- "15 and 18 write nothing"; the late 18 zeroes
abbrev pub writes_nothing : Refusal → Bool
writes_nothing (Ext row) = false
writes_nothing (Core row) = false
writes_nothing (MapLength expected found) = false
writes_nothing (MapOutOfRange row) = false
writes_nothing (ReadTable entry) = false
writes_nothing (CallTable entry) = false
writes_nothing (VarClass row) = false
writes_nothing (ConstMismatch row) = false
writes_nothing (NodeMismatch row) = false
writes_nothing (ChainMismatch row) = false
writes_nothing (CallMismatch row) = false
writes_nothing (RootMismatch position) = false
writes_nothing (CongruenceMismatch position) = false
writes_nothing (DeadEntry variable) = false
writes_nothing (RowCount graph) = true
writes_nothing (BadRow row graph) = false
writes_nothing (BadBit position graph) = false
writes_nothing (WorkShort list) = true
writes_nothing (BadRoot position graph) = false
writes_nothing (BookShape place) = false
writes_nothing (TooWide row graph) = false
writes_nothing (ValueCount expected found) = false
writes_nothing (ValueRange row) = false
writes_nothing NoSection = false
writes_nothing (CellTable entry) = false
writes_nothing (FunctionCells entry) = false
writes_nothing (RootFalse position) = false
writes_nothing (SortTable entry) = false
writes_nothing (NoRows section) = false
writes_nothing BookFull = false
writes_nothing (ListShort list) = false
