-- The words of two small books, one of each edition, computed. Assumes nothing.
use mathlib.Core.Path.{◌≡◌, refl}
use mathlib.Core.List.{[], ◌∷◌}
use Rattle.lists.specs.Build.{build}
use Rattle.contents.specs.Contents.{sections}
use Rattle.book.proofs.Cases.{copies, small, sorted}
use Rattle.bodies.specs.Words.{list_of, loaded}

small-roots : list_of small 10 ≡ 258 ∷ []
unfolding build copies
small-roots = refl

small-words : loaded small (sections small) ≡ 258 ∷ []
unfolding loaded build copies
small-words = refl

-- array, index width, cell width
sorted-sorts : list_of sorted 11 ≡ 7 ∷ 16 ∷ 16 ∷ []
unfolding build copies
sorted-sorts = refl

sorted-words : loaded sorted (sections sorted) ≡ 2 ∷ 7 ∷ 16 ∷ 16 ∷ []
unfolding loaded build copies
sorted-words = refl
