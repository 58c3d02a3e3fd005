-- What an edge switch does with a frame of a host at one of its ports.
use Rattle.std.specs.Prelude.{ℕ, ◌==◌, ◌&&◌, ◌||◌, not, Bool, false, if◌then◌else◌, List, [], ◌∷◌, ◌++◌, Option, Some, None, is_some, fold}
use Rattle.std.specs.List.{filter, flat_map, list_any}
use Rattle.std.specs.BTreeSet.{insert_key}
use Rattle.std.specs.Ordering.{nat_cmp, ordering_then}
use Rattle.std.specs.declared.cmp.Ordering.{Ordering}
use Rattle.pl_frame.specs.declared.address.Mac.{Mac}
use Rattle.pl_frame.specs.Ethernet.{destination_of, source_of}
use Rattle.pl_arp.specs.declared.packet.Arp.{Arp}
use Rattle.pl_pmac.specs.declared.pmac.Pmac.{Pmac}
use Rattle.pl_pmac.specs.Pmac.{mac_of, pmac_of}
use Rattle.pl_node.specs.declared.acts.Act.{Act}
use Rattle.pl_node.specs.declared.acts.Act.TheVariants.{Drop, Take, Tell}
use Rattle.pl_switch_rule.specs.declared.came.Came.TheVariants.{FromHost}
use Rattle.pl_journal.specs.declared.cause.Cause.TheVariants.{BadArp, NotPlaced, Spent}
use Rattle.pl_layouts.specs.declared.membership.Change.{Change}
use Rattle.pl_node.specs.declared.messages.ToManager.TheVariants.{Members, Query}
use Rattle.pl_switch_rule.specs.Delivering.{arrives_home, destination}
use Rattle.pl_switch_rule.specs.Forwarding.{Choice, forwards}
use Rattle.pl_layouts.specs.Frames.{arriving, mac_number, packet_in}
use Rattle.pl_switch_rule.specs.Granting.{address_at_port, grants_at, has_no_address, in_use, is_local, learns_source}
use Rattle.pl_switch_rule.specs.GroupForwarding.{forwards_group}
use Rattle.pl_switch_rule.specs.Levels.{finds_host}
use Rattle.pl_layouts.specs.Memberships.{changes_in, group_number, is_group, membership_in}
use Rattle.pl_journal.specs.Places.{are_alike}
use Rattle.pl_layouts.specs.Placement.{is_known, is_placed}
use Rattle.pl_steps.specs.Steps.{SwitchStep, does, ◌▹◌}
use Rattle.pl_node.specs.declared.switch_records.Member.{Member}
use Rattle.pl_node.specs.SwitchViews.{SwitchView}
use Rattle.pl_layouts.specs.Equality.{same_mac}
use Rattle.pl_journal.specs.Causes.{is_bad_arp}

-- Members.

-- by group, then by port, then by address
abbrev pub member_cmp : Member → Member → Ordering
member_cmp a b = ordering_then (nat_cmp a.group b.group) (ordering_then (nat_cmp a.port b.port) (nat_cmp (mac_number a.amac) (mac_number b.amac)))

abbrev pub is_member : ℕ → Mac → Member → Bool
is_member port amac m = (m.port == port) && same_mac m.amac amac

abbrev pub joins : ℕ → Mac → ℕ → List Member → List Member
joins port amac group members = insert_key member_cmp members (record { group = group; port = port; amac = amac })

abbrev pub leaves : ℕ → Mac → ℕ → List Member → List Member
leaves port amac group members = filter (λ m. not ((m.group == group) && is_member port amac m)) members

abbrev pub changes_member : ℕ → Mac → List Member → Change → List Member
changes_member port amac members change =
    if change.join then joins port amac (group_number change.group) members else leaves port amac (group_number change.group) members

abbrev pub with_members : SwitchView → List Member → SwitchView
with_members v members = record v { members = members }

abbrev pub has_member_of : List Member → ℕ → Bool
has_member_of members group = list_any (λ m. m.group == group) members

-- the groups of these members, rising
abbrev pub groups_of : List Member → List ℕ
groups_of members = fold (λ groups m. insert_key nat_cmp groups m.group) [] members

abbrev pub group_told : List Member → List Member → ℕ → List Act
group_told old new group =
    if are_alike (has_member_of old group) (has_member_of new group) then [] else Tell (Members group (has_member_of new group)) ∷ []

-- the manager is told of each group whose members became some or none, by rising group
abbrev pub groups_told : List Member → List Member → List Act
groups_told old new = flat_map (group_told old new) (groups_of (old ++ new))

abbrev pub members_become : SwitchView → List Member → SwitchStep
members_become v members = does (with_members v members) (groups_told v.members members)

-- the frame's changes of the memberships of its sender, in order
abbrev pub hears_members : SwitchView → ℕ → List ℕ → SwitchStep
hears_members v port frame = members_become v (fold (changes_member port (source_of frame)) v.members (changes_in frame))

-- ARP.

-- the pseudo address of a source at a port
abbrev pub pmac_at : SwitchView → ℕ → Option ℕ → Option Pmac
pmac_at v port None = None
pmac_at v port (Some vmid) = Some (address_at_port v port vmid)

abbrev pub source_pmac : SwitchView → ℕ → List ℕ → Option Pmac
source_pmac v port frame = pmac_at v port (in_use (grants_at v port) (source_of frame))

abbrev pub query : Option Pmac → Arp → List Act
query None arp = []
query (Some asker) arp = Tell (Query asker arp.spa arp.tpa) ∷ []

-- a request of a host for another host's address is passed on to the manager
abbrev pub asks_manager : SwitchView → ℕ → List ℕ → Arp → List Act
asks_manager v port frame arp =
    if is_placed v.place && (arp.op == 1) && not (arp.spa.0 == arp.tpa.0) then query (source_pmac v port frame) arp else []

-- a request, or another packet to a group or to the sender of a probe of this switch, is for the switch itself
abbrev pub is_for_switch : SwitchView → Mac → Option Arp → Bool
is_for_switch v dst None = false
is_for_switch v dst (Some arp) = (arp.op == 1) || is_group dst || (is_local v (pmac_of dst) && ((pmac_of dst).vmid == 0))

abbrev pub packet_acts : SwitchView → ℕ → List ℕ → Option Arp → List Act
packet_acts v port frame None = []
packet_acts v port frame (Some arp) = asks_manager v port frame arp

abbrev pub takes : SwitchView → SwitchStep
takes v = does v (Take ∷ [])

-- Sending on.

abbrev pub mac_of_pmac : Option Pmac → Option Mac
mac_of_pmac None = None
mac_of_pmac (Some address) = Some (mac_of address)

-- the frame as it goes into the fabric: the source, also in an ARP packet, is the pseudo address
abbrev pub with_pmac : SwitchView → ℕ → List ℕ → List ℕ
with_pmac v port frame = arriving frame (mac_of_pmac (source_pmac v port frame)) None

-- a frame for a group, for a host of this switch, or for another switch
abbrev pub sends_in : Choice → List ℕ → SwitchView → SwitchStep
sends_in choose frame v =
    if is_group (destination_of frame) then forwards_group v (Some FromHost) frame
    else if is_local v (destination frame) then arrives_home choose v frame
    else forwards choose v (Some FromHost) frame

-- A frame whose source was learnt: an ARP frame that cannot be read is dropped, what is for the switch itself is taken, and the rest is sent on
-- under the pseudo address of its source.
abbrev pub takes_in : Choice → ℕ → List ℕ → SwitchView → SwitchStep
takes_in choose port frame v =
    if is_bad_arp frame then does v (Drop BadArp ∷ [])
    else if is_for_switch v (destination_of frame) (packet_in frame) then does v (packet_acts v port frame (packet_in frame)) ▹ takes
    else if is_some (membership_in frame) then hears_members v port frame ▹ takes
    else if not (is_placed v.place) then does v (Drop NotPlaced ∷ [])
    else sends_in choose (with_pmac v port frame) v

abbrev pub takes_in_or_spent : Choice → ℕ → List ℕ → SwitchView → SwitchStep
takes_in_or_spent choose port frame v =
    if has_no_address v port (source_of frame) then does v (Drop Spent ∷ []) else takes_in choose port frame v

-- A frame of a host comes. An aggregation or core switch has no hosts.
abbrev pub comes_from_host : Choice → SwitchView → ℕ → List ℕ → SwitchStep
comes_from_host choose v port frame =
    if is_known v.place.level 1 || is_known v.place.level 2 then does v (Drop NotPlaced ∷ [])
    else finds_host v port ▹ (λ w. learns_source w port frame) ▹ takes_in_or_spent choose port frame
