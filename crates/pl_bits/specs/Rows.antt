-- Rows of values: what one of two says, and how many values are true.
use Rattle.std.specs.Prelude.{◌≡◌, ◌||◌, ℕ, Bool, true, false, List, [], ◌∷◌, count_by, map, refl}
use Rattle.std.specs.List.{zip}

-- what one of two rows says, as far as the shorter one goes
abbrev pub either_row : List Bool → List Bool → List Bool
either_row row more = map (λ p. p.0 || p.1) (zip row more)

-- how many values are true
abbrev pub trues : List Bool → ℕ
trues row = count_by (λ value. value) row

-- two of three values
pub either_of_two : either_row (true ∷ false ∷ false ∷ []) (false ∷ false ∷ true ∷ []) ≡ true ∷ false ∷ true ∷ []
either_of_two = refl

pub two_are_true : trues (true ∷ false ∷ true ∷ []) ≡ 2
two_are_true = refl
