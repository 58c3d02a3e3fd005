-- What a switch tells a manager that began anew: all that a manager has to know of it.
use Rattle.std.specs.Prelude.{ℕ, ◌+◌, ◌&&◌, Bool, true, if◌then◌else◌, List, [], ◌∷◌, ◌++◌, map, Option, Some, None, is_none}
use Rattle.std.specs.List.{flat_map}
use Rattle.pl_frame.specs.declared.address.SwitchId.{SwitchId}
use Rattle.pl_pmac.specs.declared.pmac.Pmac.{Pmac}
use Rattle.pl_node.specs.declared.acts.Act.{Act}
use Rattle.pl_node.specs.declared.acts.Act.TheVariants.{Tell}
use Rattle.pl_node.specs.declared.address_use.AddressUse.{AddressUse}
use Rattle.pl_node.specs.declared.address_use.AddressUse.TheVariants.{InUse, Resting, Trapped}
use Rattle.pl_node.specs.declared.messages.ToManager.{ToManager}
use Rattle.pl_node.specs.declared.messages.ToManager.TheVariants as tell
use Rattle.pl_node.specs.declared.switch_records.Grant.{Grant}
use Rattle.pl_node.specs.declared.switch_records.Member.{Member}
use Rattle.pl_node.specs.PortRecords.{id_at, is_usable, ports_of_switch}
use Rattle.pl_node.specs.SwitchViews.{SwitchView}
use Rattle.pl_layouts.specs.declared.place.Place.{Place}
use Rattle.pl_layouts.specs.Placement.{is_known}
use Rattle.pl_steps.specs.Steps.{SwitchStep}
use Rattle.pl_switch_rule.specs.Granting.{address_at_port, grants_at}
use Rattle.pl_switch_rule.specs.Intake.{groups_of}

-- each port at which a neighbour was heard, rising; also where nothing was ever usable there
abbrev pub link_reported : Option SwitchId → Bool → List ToManager
link_reported None usable = []
link_reported (Some neighbour) usable = tell.Link neighbour usable ∷ []

abbrev pub links_reported : SwitchView → List ToManager
links_reported v = flat_map (λ port. link_reported (id_at v port) (is_usable v port)) (ports_of_switch v.k)

-- an edge switch with position 0 that knows no pod asks for it
abbrev pub wish_reported : Place → List ToManager
wish_reported place = if is_known place.level 0 && is_known place.position 0 && is_none place.pod then tell.PodWanted ∷ [] else []

-- of the switch itself
abbrev pub own_reported : SwitchView → List ToManager
own_reported v = tell.Place v.place ∷ (links_reported v ++ wish_reported v.place)

-- of an address: that it is in use, that a trap stands for it, that it rests
abbrev pub use_reported : Pmac → Grant → AddressUse → List ToManager
use_reported x g (InUse idle) = tell.Learned x g.amac g.ip ∷ []
use_reported x g held = []

abbrev pub trap_reported : Pmac → AddressUse → List ToManager
trap_reported x (Trapped trap age) = tell.Trapped x trap.new trap.number ∷ []
trap_reported x held = []

abbrev pub rest_reported : Pmac → AddressUse → List ToManager
rest_reported x (Resting number) = tell.Aged x number ∷ []
rest_reported x held = []

-- of the grants of a port, from this vmid on
abbrev pub each_from : (ℕ → Grant → List ToManager) → ℕ → List Grant → List ToManager
each_from reported vmid [] = []
each_from reported vmid (g ∷ grants) = reported vmid g ++ each_from reported (vmid + 1) grants

-- of each address, by rising port and vmid
abbrev pub each_grant : (Pmac → Grant → List ToManager) → SwitchView → List ToManager
each_grant reported v = flat_map (λ port. each_from (λ vmid g. reported (address_at_port v port vmid) g) 1 (grants_at v port)) (ports_of_switch v.k)

-- what `EdgeTable::report` tells: all addresses in use, then all traps, then all that rest
abbrev pub addresses_reported : SwitchView → List ToManager
addresses_reported v =
    each_grant (λ x g. use_reported x g g.held) v ++ (each_grant (λ x g. trap_reported x g.held) v ++ each_grant (λ x g. rest_reported x g.held) v)

-- each group with members, by rising number
abbrev pub groups_reported : List Member → List ToManager
groups_reported members = map (λ group. tell.Members group true) (groups_of members)

abbrev pub members_reported : SwitchView → List ToManager
members_reported v = groups_reported v.members

abbrev pub report : SwitchView → List ToManager
report v = own_reported v ++ (addresses_reported v ++ members_reported v)

-- what it tells then: the report, between words that say for which epoch it is
abbrev pub report_for : ℕ → SwitchView → List ToManager
report_for epoch v = tell.Begin epoch ∷ (report v ++ tell.End epoch ∷ [])

-- these words are told, in order
abbrev pub each_told : List ToManager → List Act
each_told words = map (λ word. Tell word) words

-- The row: the switch keeps the epoch, forgets its avoid list and all its parts of trees, and tells its report.
abbrev pub hears_hello : SwitchView → ℕ → SwitchStep
hears_hello v epoch = record { view = record v { epoch = epoch; avoid = []; parts = [] }; acts = each_told (report_for epoch v) }
