-- Places of switches, as far as they are known.
use Rattle.std.specs.Prelude.{ℕ, ◌==◌, ◌&&◌, ◌||◌, Bool, false, Option, Some, None, is_some, is_none}
use Rattle.pl_layouts.specs.declared.place.Place.{Place}

-- a number that is known to be this one
abbrev pub is_known : Option ℕ → ℕ → Bool
is_known None n = false
is_known (Some m) n = m == n

-- the place of a switch that knows nothing
abbrev pub nowhere : Place
nowhere = record { level = None; position = None; pod = None }

-- a core switch is placed by its level, an aggregation switch by its pod, an edge switch by its position and its pod
abbrev pub is_placed : Place → Bool
is_placed place =
    is_known place.level 2 || (is_known place.level 1 && is_some place.pod)
    || (is_known place.level 0 && is_some place.position && is_some place.pod)

abbrev pub same_number : Option ℕ → Option ℕ → Bool
same_number None other = is_none other
same_number (Some n) other = is_known other n

abbrev pub same_place : Place → Place → Bool
same_place a b = same_number a.level b.level && same_number a.position b.position && same_number a.pod b.pod
