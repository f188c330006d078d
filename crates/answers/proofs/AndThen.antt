-- Two answers, the first of which counts where it refuses. Assumes nothing.
use mathlib.Core.Path.{◌≡◌, refl, sym, ◌∙◌}
use mathlib.Core.Bool.{Bool, true, false, cond}
use Rattle.lists.proofs.Choice.{no_way}
use Rattle.answers.specs.Answer.{Answer, is_accepted, and_then}

pub accepts-both : (a b : Answer) → is_accepted (and_then a b) ≡ true → (is_accepted a ≡ true) × (is_accepted b ≡ true)
accepts-both a b e = go (is_accepted a) refl e
  where
    go : (t : Bool) → is_accepted a ≡ t → is_accepted (cond t b a) ≡ true → (is_accepted a ≡ true) × (is_accepted b ≡ true)
    go true f g = (f, g)
    go false f g = no_way (sym g ∙ f)
