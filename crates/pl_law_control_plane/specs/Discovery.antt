-- Which places and proposals can be told in control frames.
use Rattle.std.specs.Prelude.{◌≡◌, ℕ, ◌<◌, ◌≤◌, ◌⊎◌, Some}
use Rattle.pl_layouts.specs.declared.place.Place.{Place}

-- a level is 0, 1 or 2; an edge switch alone has a position, and no core switch a pod; no number is the code of an unknown one
pub record CanBeTold (place : Place) : Type 0 where
  pub level : (x : ℕ) → place.level ≡ Some x → x < 3
  pub position : (x : ℕ) → place.position ≡ Some x → (place.level ≡ Some 0) × (x < 255)
  pub pod : (x : ℕ) → place.pod ≡ Some x → ((place.level ≡ Some 0) ⊎ (place.level ≡ Some 1)) × (x < 65535)

-- the number of an attempt and a position stand in their bytes, and attempts begin at 1
pub record CanPropose (attempt proposed : ℕ) : Type 0 where
  pub begun : 1 ≤ attempt
  pub attempt_fits : attempt ≤ 4294967295
  pub position_fits : proposed < 256
