-- An edition whose table is good.
-- Inner: contracts within the code cite it; no answer's definition does. Assumes nothing.
use Rattle.std.specs.Prelude.{◌≡◌, true}
use Rattle.answers.specs.Answer.{is_accepted}
use Rattle.sorts.specs.Sorts.{Edition, sort_answer}

abbrev pub Good : Edition → Type 0
Good E = is_accepted (sort_answer E) ≡ true
