-- How many attempts an edge switch makes.
use Rattle.std.specs.Prelude.{◌≡◌, ◌≤◌, ℕ, Some}
use Rattle.pl_node.specs.SwitchViews.{SwitchView}

-- An edge switch that knows its level has made no more attempts than there were steps; any other switch is at its first one.
pub record IsBounded (steps : ℕ) (v : SwitchView) : Type 0 where
  pub few : v.place.level ≡ Some 0 → v.attempt ≤ steps
  pub at_first : (v.place.level ≡ Some 0 → ⊥) → v.attempt ≡ 1
