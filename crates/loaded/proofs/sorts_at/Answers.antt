-- Section 12 of a second edition; none of a first. Assumes nothing.
use mathlib.Core.Path.{◌≡◌, sym, ◌∙◌}
use mathlib.Core.Bool.{true}
use native.Mathlib.Omega.{arith}
use Rattle.contents.specs.Contents.{is_second}
use Rattle.contents.proofs.Editions.{sections-second}
use Rattle.book.proofs.Shape.{first_word}
use Rattle.loaded.proofs.sorts_at.Goals as goal
use Rattle.loaded.proofs.sorts_at.Goals.{Else-not-is_second}

pub is_second-requires : goal.is_second-requires
is_second-requires c = first_word c.args.book.bytes.now c.args.book.good

-- the edition, as the call told
second : (c : Else-not-is_second) → is_second c.args.book.bytes.now ≡ true
second c = sym c.is_second.ensures.test ∙ c.if-not-is_second.false

pub list_at-requires-clause-i_bound : goal.list_at-requires-clause-i_bound
list_at-requires-clause-i_bound c =
    omega (arith, sections-second c.args.book.bytes.now (second (goal.at.list_at-requires-clause-i_bound c).Else-not-is_second))

pub returns-then-not-is_second : goal.returns-then-not-is_second
returns-then-not-is_second c = record { table = rw (sym c.is_second.ensures.test ∙ c.if-not-is_second.true) }

pub returns : goal.returns
returns c = record { table = rw (second (goal.at.returns c).Else-not-is_second, c.list_at.ensures.list) }
