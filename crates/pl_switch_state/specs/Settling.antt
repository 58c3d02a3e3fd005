-- What is known of a place stays known.
use Rattle.std.specs.Prelude.{◌≡◌, ℕ, Option, Some}
use Rattle.pl_layouts.specs.declared.place.Place.{Place}

-- what is known stays as it is
abbrev pub StaysKnown : Option ℕ → Option ℕ → Type 0
StaysKnown old new = (n : ℕ) → old ≡ Some n → new ≡ Some n

-- each part of a place that is known stays as it is
pub record PlaceGrows (old new : Place) : Type 0 where
  pub level : StaysKnown old.level new.level
  pub position : StaysKnown old.position new.position
  pub pod : StaysKnown old.pod new.pod
