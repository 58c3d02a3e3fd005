-- Rows of truth values, one or the other.
use Rattle.std.proofs.Common.{[], ap, Bool, List, map, refl, ◌||◌, ◌∷◌, ◌≡◌}
use Rattle.pl_bits.specs.Rows.{either_row}

pub either_of : {X : Type 0} (f g : X → Bool) (xs : List X) → either_row (map f xs) (map g xs) ≡ map (λ x. f x || g x) xs
either_of f g [] = refl
either_of f g (x ∷ xs) = ap (λ bs. (f x || g x) ∷ bs) (either_of f g xs)
