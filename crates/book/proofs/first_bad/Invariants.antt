-- Invariant: no section below i is bad, and due is where section i + 1 must start. Assumes nothing.
use Rattle.std.proofs.Common.{◌≡◌, ℕ, ◌<◌, false}
use Rattle.book.specs.Book.{due_at, bad_section}
use Rattle.book.proofs.first_bad.Given as goal

abbrev pub invariant-loop-i : goal.invariant-loop-i
invariant-loop-i l = record { place : l.due ≡ due_at l.book l.i; good : (j : ℕ) → j < l.i → bad_section l.book j ≡ false }
