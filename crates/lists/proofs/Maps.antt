-- Lists that two functions make of the same list.
use mathlib.Core.Path.{◌≡◌, ap}
use mathlib.Core.List.{List, [], ◌∷◌, map}

module _ {B : Type 0} where
  -- the first of a list, and the others
  first_or : B → List B → B
  first_or d [] = d
  first_or d (x ∷ xs) = x

  others : List B → List B
  others [] = []
  others (x ∷ xs) = xs

-- where the lists are the same, so are their first entries and the rest
pub same_maps : {A B : Type 0} (f g : A → B) (a : A) (l : List A) → map f (a ∷ l) ≡ map g (a ∷ l) → (f a ≡ g a) × (map f l ≡ map g l)
unfolding first_or others
same_maps f g a l h = (ap (first_or (f a)) h, ap others h)
