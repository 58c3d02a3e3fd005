-- What entries say of places and of registrations.
use Rattle.std.specs.Prelude.{◌≡◌, ◌<◌, ℕ, ◌+◌, ◌==◌, if◌then◌else◌, List, [], ◌∷◌, Option, Some, None, reverse}
use Rattle.std.specs.List.{filter_map, find}
use Rattle.pl_pmac.specs.declared.pmac.Pmac.{Pmac}
use Rattle.pl_layouts.specs.Equality.{same_pmac}
use Rattle.pl_layouts.specs.declared.place.Place.{Place}
use Rattle.pl_layouts.specs.Placement.{nowhere, same_place}
use Rattle.pl_journal.specs.declared.entry.Entry.{Entry}
use Rattle.pl_journal.specs.declared.entry.Entry.TheVariants.{Placed, Registered, Restarted}
use Rattle.pl_node.specs.ManagerViews.{numbers_before}
use Rattle.pl_node.specs.SwitchViews.{SwitchView}

-- a switch and the place that it came to know
abbrev pub placing_in : Entry → Option (ℕ × Place)
placing_in (Placed s place) = Some (s.0, place)
placing_in entry = None

-- an address and its number
abbrev pub registration_in : Entry → Option (Pmac × ℕ)
registration_in (Registered pmac n) = Some (pmac, n)
registration_in entry = None

-- those of all entries, in their order
abbrev pub placings : List Entry → List (ℕ × Place)
placings entries = filter_map placing_in entries

abbrev pub registrations : List Entry → List (Pmac × ℕ)
registrations entries = filter_map registration_in entries

-- the last one of an address
abbrev pub last_registration : List Entry → Pmac → Option (Pmac × ℕ)
last_registration entries x = find (λ r. same_pmac r.0 x) (reverse (registrations entries))

-- the switches that know another place than before, in label order from number n on, and what they know then
abbrev pub new_places : ℕ → List SwitchView → List SwitchView → List (ℕ × Place)
new_places n [] after = []
new_places n (v ∷ before) [] = []
new_places n (v ∷ before) (w ∷ after) =
    if same_place v.place w.place then new_places (n + 1) before after else (n, w.place) ∷ new_places (n + 1) before after

-- The place of a switch as it was written last. The entries that are past have the newest first.
abbrev pub place_written : List Entry → ℕ → Place
place_written [] s = nowhere
place_written (Placed t place ∷ past) s = if t.0 == s then place else place_written past s
place_written (entry ∷ past) s = place_written past s

-- The number of the last registration; of none in an epoch of the manager, the number before its first. The entries that are past have the newest first.
abbrev pub last_number : List Entry → ℕ
last_number [] = numbers_before 0
last_number (Registered pmac n ∷ past) = n
last_number (Restarted epoch ∷ past) = numbers_before epoch
last_number (entry ∷ past) = last_number past

-- each registration has the next number
abbrev pub AreInTurn : List Entry → Type 0
AreInTurn [] = Unit {0}
AreInTurn (Registered pmac n ∷ past) = (n ≡ last_number past + 1) × AreInTurn past
AreInTurn (entry ∷ past) = AreInTurn past

-- the number of the last registration in any epoch, or 0
abbrev pub last_given : List Entry → ℕ
last_given [] = 0
last_given (Registered pmac n ∷ past) = n
last_given (entry ∷ past) = last_given past

-- each registration has a larger number than those before it, whatever epoch they are of
abbrev pub AreRising : List Entry → Type 0
AreRising [] = Unit {0}
AreRising (Registered pmac n ∷ past) = (last_given past < n) × AreRising past
AreRising (entry ∷ past) = AreRising past
