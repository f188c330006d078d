-- Verdicts computed: the empty book of each edition, the empty input. Assumes nothing.
use mathlib.Core.Path.{◌≡◌, refl}
use mathlib.Core.List.{[]}
use Rattle.answers.specs.Answer.{Accepted, BookShape}
use Rattle.lists.specs.First.{first}
use Rattle.lists.specs.Build.{build}
use Rattle.lists.specs.Trace.{trace}
use Rattle.lowering.specs.Roots.{leads, pairs_with, pairs}
use Rattle.lowering.specs.Check.{first_refusal}
use Rattle.book.proofs.Cases.{entry, copies}
use Rattle.judge.specs.Judge.{verdict, strict_verdict}

-- "The book of eleven empty bodies, each start 176, prints `accepted`", strictly too
empty-book : (verdict (copies 11 (entry 176 0)) ≡ Accepted) × (strict_verdict (copies 11 (entry 176 0)) ≡ Accepted)
unfolding first build trace first_refusal leads pairs_with pairs copies
empty-book = (refl, refl)

-- the second edition's: twelve empty bodies, each start 192
empty-second : (verdict (copies 12 (entry 192 0)) ≡ Accepted) × (strict_verdict (copies 12 (entry 192 0)) ≡ Accepted)
unfolding first build trace first_refusal leads pairs_with pairs copies
empty-second = (refl, refl)

-- "under 192 bytes is place 0"
cut-second : (verdict (copies 11 (entry 192 0)) ≡ BookShape 0) × (strict_verdict (copies 11 (entry 192 0)) ≡ BookShape 0)
unfolding first copies
cut-second = (refl, refl)

-- "Empty input prints `refused 20 0 0`"
empty-input : (verdict [] ≡ BookShape 0) × (strict_verdict [] ≡ BookShape 0)
unfolding first
empty-input = (refl, refl)
