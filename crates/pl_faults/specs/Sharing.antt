-- Switches whose avoid lists have the same rows.
use Rattle.std.specs.Prelude.{◌≡◌, ℕ, Bool, if◌then◌else◌, Option, Some, None, IfSome, IsTrue}
use Rattle.std.specs.Option.{option_map}
use Rattle.pl_layouts.specs.declared.place.Place.{Place}
use Rattle.pl_layouts.specs.Placement.{is_known}
use Rattle.pl_node.specs.declared.hidden.Hidden.{Hidden}
use Rattle.pl_node.specs.ManagerViews.{Told, place_of}
use Rattle.pl_faults.specs.declared.leading.Leading.{Leading}
use Rattle.pl_faults.specs.declared.sharing.Shared.{Shared}
use Rattle.pl_faults.specs.Missed.{AreApart, IsLeading, Misses, missed_above}

-- all that the neighbours above a switch miss
pub record IsShared (told : Told) (misses : Misses) (shared : Shared) : Type 0 where
  pub list : shared.list ≡ missed_above told misses (place_of told shared.switch).level shared.switch

-- the same of a list, if there is one
abbrev pub MayBeShared : Told → Leading → Option Shared → Type 0
MayBeShared told leading last = IfSome last (IsShared told leading.misses.entries)

abbrev pub own_address : Option ℕ → Option ℕ → Option Hidden
own_address (Some pod) (Some position) = Some (record { pod = pod; position = Some position })
own_address pod position = None

-- what is known while lists are made one after the other: where the switches lead on to, whether placed edge switches are apart, and what the
-- last list may leave to the next one
pub record CanShare (told : Told) (known : Leading) (is_apart : Bool) (last : Option Shared) : Type 0 where
  pub leading : IsLeading told known
  pub apart : IsTrue is_apart → AreApart known.edges.items
  pub shared : MayBeShared told known last

-- what a switch at this place does not avoid: its own address, or its own pod
abbrev pub hidden_of : Place → Option Hidden
hidden_of place =
    if is_known place.level 1 then option_map (λ pod. let h : Hidden = record { pod = pod; position = None } in h) place.pod
    else if is_known place.level 0 then own_address place.pod place.position
    else None
