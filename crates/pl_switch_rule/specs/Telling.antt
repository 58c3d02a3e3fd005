-- What a switch tells the fabric manager of its place and its links: each change, in the step in which it comes.
use Rattle.std.specs.Prelude.{ℕ, ◌&&◌, not, Bool, if◌then◌else◌, List, [], ◌∷◌, ◌++◌, Option, Some, None}
use Rattle.std.specs.List.{flat_map}
use Rattle.pl_frame.specs.declared.address.SwitchId.{SwitchId}
use Rattle.pl_node.specs.declared.acts.Act.{Act}
use Rattle.pl_node.specs.declared.acts.Act.TheVariants.{Tell}
use Rattle.pl_node.specs.declared.messages.ToManager.TheVariants.{Place as TellPlace, Link, PodWanted}
use Rattle.pl_layouts.specs.declared.place.Place.{Place}
use Rattle.pl_journal.specs.Places.{are_alike}
use Rattle.pl_node.specs.PortRecords.{id_at, is_usable, ports_of_switch}
use Rattle.pl_layouts.specs.Placement.{is_known, same_place}
use Rattle.pl_node.specs.SwitchViews.{SwitchView}

abbrev pub place_told : Place → Place → List Act
place_told old new = if same_place old new then [] else Tell (TellPlace new) ∷ []

abbrev pub link_to : Option SwitchId → Bool → List Act
link_to None usable = []
link_to (Some neighbour) usable = Tell (Link neighbour usable) ∷ []

-- a link that became usable, or ceased to be
abbrev pub link_told : SwitchView → SwitchView → ℕ → List Act
link_told old new port = if are_alike (is_usable old port) (is_usable new port) then [] else link_to (id_at new port) (is_usable new port)

-- an edge switch whose position becomes 0 asks for the number of its pod
abbrev pub pod_wanted : Place → Place → List Act
pod_wanted old new = if is_known new.level 0 && is_known new.position 0 && not (is_known old.position 0) then Tell PodWanted ∷ [] else []

-- the place, then the links by rising port, then the wish for a pod
abbrev pub changes_told : SwitchView → SwitchView → List Act
changes_told old new =
    place_told old.place new.place ++ flat_map (link_told old new) (ports_of_switch new.k) ++ pod_wanted old.place new.place
