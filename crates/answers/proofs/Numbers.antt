-- "Acceptance is number 0", and no refusal is. Assumes nothing.
use mathlib.Core.Path.{◌≡◌, refl, sym, ◌∙◌}
use mathlib.Core.Bool.{true, false}
use borrow.Author.Tests.{eq-eqb}
use lib.Dec.{eqb}
use Rattle.std.specs.Prelude.{Ok, Err}
use Rattle.answers.specs.declared.Refusal.{Refusal}
use Rattle.answers.specs.declared.Refusal.TheVariants.{Ext, Core, MapLength, MapOutOfRange, ReadTable, CallTable, VarClass}
use Rattle.answers.specs.declared.Refusal.TheVariants.{ConstMismatch, NodeMismatch, ChainMismatch, CallMismatch, RootMismatch}
use Rattle.answers.specs.declared.Refusal.TheVariants.{CongruenceMismatch, DeadEntry, RowCount, BadRow, BadBit, WorkShort, BadRoot}
use Rattle.answers.specs.declared.Refusal.TheVariants.{BookShape, TooWide, ValueCount, ValueRange, NoSection, CellTable, FunctionCells}
use Rattle.answers.specs.declared.Refusal.TheVariants.{RootFalse, SortTable, NoRows, BookFull, ListShort}
use Rattle.answers.specs.Answer.{Answer, words_of, is_accepted}
use Rattle.answers.specs.Refusal.{words_of_refusal}

refusal-number : (r : Refusal) → eqb (words_of_refusal r).number 0 ≡ false
refusal-number (Ext _) = refl
refusal-number (Core _) = refl
refusal-number (MapLength _ _) = refl
refusal-number (MapOutOfRange _) = refl
refusal-number (ReadTable _) = refl
refusal-number (CallTable _) = refl
refusal-number (VarClass _) = refl
refusal-number (ConstMismatch _) = refl
refusal-number (NodeMismatch _) = refl
refusal-number (ChainMismatch _) = refl
refusal-number (CallMismatch _) = refl
refusal-number (RootMismatch _) = refl
refusal-number (CongruenceMismatch _) = refl
refusal-number (DeadEntry _) = refl
refusal-number (RowCount _) = refl
refusal-number (BadRow _ _) = refl
refusal-number (BadBit _ _) = refl
refusal-number (WorkShort _) = refl
refusal-number (BadRoot _ _) = refl
refusal-number (BookShape _) = refl
refusal-number (TooWide _ _) = refl
refusal-number (ValueCount _ _) = refl
refusal-number (ValueRange _) = refl
refusal-number NoSection = refl
refusal-number (CellTable _) = refl
refusal-number (FunctionCells _) = refl
refusal-number (RootFalse _) = refl
refusal-number (SortTable _) = refl
refusal-number (NoRows _) = refl
refusal-number BookFull = refl
refusal-number (ListShort _) = refl

pub accepted-number : (a : Answer) → is_accepted a ≡ eqb (words_of a).number 0
accepted-number (Ok _) = refl
accepted-number (Err r) = sym (refusal-number r)

pub number-accepted : (a : Answer) → (words_of a).number ≡ 0 → is_accepted a ≡ true
number-accepted a e = accepted-number a ∙ eq-eqb _ _ e
