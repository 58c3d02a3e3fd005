-- What a switch does with a message of the fabric manager.
use Rattle.std.specs.Prelude.{ℕ, ◌==◌, ◌&&◌, nat_lt, not, Bool, if◌then◌else◌, List, [], ◌∷◌, ◌++◌, Option, Some, None, is_none, slice_set}
use Rattle.std.specs.BTreeMap.{insert_entry}
use Rattle.std.specs.List.{filter}
use Rattle.std.specs.Map.{remove_entry}
use Rattle.std.specs.Ordering.{nat_cmp}
use Rattle.pl_frame.specs.declared.address.Ip4.{Ip4}
use Rattle.pl_frame.specs.declared.address.Mac.{Mac}
use Rattle.pl_pmac.specs.declared.pmac.Pmac.{Pmac}
use Rattle.pl_pmac.specs.Pmac.{mac_of}
use Rattle.pl_node.specs.declared.acts.Act.{Act}
use Rattle.pl_node.specs.declared.acts.Act.TheVariants.{Free as FreeAct, Make, Pass}
use Rattle.pl_switch_rule.specs.declared.came.Came.TheVariants.{FromHost}
use Rattle.pl_node.specs.declared.messages.ToSwitch.{ToSwitch}
use Rattle.pl_node.specs.declared.messages.ToSwitch.TheVariants.{Answer, Avoid, Flood, Hello, Invalidate, Pod, Release, Tree}
use Rattle.pl_node.specs.declared.messages.TreePart.{TreePart}
use Rattle.pl_node.specs.declared.trap.Trap.{Trap}
use Rattle.pl_switch_rule.specs.Delivering.{makes}
use Rattle.pl_switch_rule.specs.Forwarding.{Choice}
use Rattle.pl_layouts.specs.Frames.{arriving}
use Rattle.pl_switch_rule.specs.Granting.{behind, freed_at, granted, held_here, is_granted, with_grant, without}
use Rattle.pl_switch_rule.specs.GroupForwarding.{forwards_group}
use Rattle.pl_switch_rule.specs.Intake.{is_member, members_become}
use Rattle.pl_switch_rule.specs.Levels.{changes_to, with_pod}
use Rattle.pl_switch_rule.specs.Reporting.{hears_hello}
use Rattle.pl_layouts.specs.Placement.{is_known}
use Rattle.pl_steps.specs.Steps.{SwitchStep, does, rests, ◌▹◌}
use Rattle.pl_node.specs.AddressUses.{is_in_use, standing_trap}
use Rattle.pl_node.specs.declared.address_use.AddressUse.{AddressUse}
use Rattle.pl_node.specs.declared.address_use.AddressUse.TheVariants.{Free, Resting, Trapped}
use Rattle.pl_node.specs.declared.switch_records.Grant.{Grant}
use Rattle.pl_node.specs.SwitchViews.{SwitchView}
use Rattle.pl_layouts.specs.ArpFrames.{arp_frame, broadcast, no_mac}

-- an edge switch with position 0 and without a pod takes the number of its pod
abbrev pub takes_pod : SwitchView → ℕ → Bool
takes_pod v pod = is_known v.place.level 0 && is_known v.place.position 0 && is_none v.place.pod && not (pod == 65535)

abbrev pub hears_pod : SwitchView → ℕ → SwitchStep
hears_pod v pod = if takes_pod v pod then changes_to v (with_pod v (Some pod)) else rests v

-- its part of a group's tree is replaced, or there is none any more
abbrev pub with_part : ℕ → Option TreePart → List (ℕ × TreePart) → List (ℕ × TreePart)
with_part group None parts = remove_entry (λ g. g == group) parts
with_part group (Some part) parts = insert_entry nat_cmp parts group part

-- the reply to a host that asked: the answered address has the IPv4 address
abbrev pub answer_frame : Pmac → Ip4 → Ip4 → Pmac → List ℕ
answer_frame asker asker_ip ip pmac =
    arp_frame (mac_of asker) (record { op = 2; sha = mac_of pmac; spa = ip; tha = mac_of asker; tpa = asker_ip })

-- the request to all hosts
abbrev pub flood_frame : Pmac → Ip4 → Ip4 → List ℕ
flood_frame asker asker_ip ip =
    arp_frame broadcast (record { op = 1; sha = mac_of asker; spa = asker_ip; tha = no_mac; tpa = ip })

abbrev pub floods : SwitchView → List ℕ → SwitchStep
floods v frame = does v (Make frame ∷ []) ▹ (λ w. forwards_group w (Some FromHost) frame)

-- The request to a host that may still stand at an old address. Its sender has no host's address: vmid 0.
abbrev pub probe_frame : Pmac → Ip4 → List ℕ
probe_frame old ip =
    arp_frame (mac_of old) (record { op = 1; sha = mac_of (record old { vmid = 0 }); spa = record { 0 = 0 }; tha = no_mac; tpa = ip })

-- a trap is set now, and is the last one that was set
abbrev pub with_trap : SwitchView → Pmac → Grant → Trap → SwitchView
with_trap v old grant trap =
    record (with_grant v old (record grant { held = Trapped trap 0 })) { used = without old v.used; trapped = behind old v.trapped }

abbrev pub sets_trap_over : Option Trap → SwitchView → Pmac → Grant → Trap → SwitchView
sets_trap_over None v old grant trap = with_trap v old grant trap
sets_trap_over (Some standing) v old grant trap = if nat_lt trap.number standing.number then v else with_trap v old grant trap

-- A trap stands for an address from then on, and it is in use no more. One with a larger number stays, and its age too.
abbrev pub sets_trap : SwitchView → Pmac → Grant → Trap → SwitchView
sets_trap v old grant trap = sets_trap_over (standing_trap grant.held) v old grant trap

-- the acts by which a host is probed; nothing is asked where its IPv4 address is not known
abbrev pub probe_acts : Pmac → Mac → Option Ip4 → List Act
probe_acts old amac None = []
probe_acts old amac (Some ip) = Make (probe_frame old ip) ∷ Pass old.port (arriving (probe_frame old ip) None (Some amac)) ∷ []

abbrev pub probes_at : Pmac → Mac → Option Ip4 → SwitchView → SwitchStep
probes_at old amac ip v = does v (probe_acts old amac ip)

-- where the address was in use, its host is probed
abbrev pub probes : Pmac → Grant → SwitchView → SwitchStep
probes old grant v = if is_in_use grant.held then probes_at old grant.amac grant.ip v else rests v

-- what the host at the old port had joined is forgotten
abbrev pub forgets_members : ℕ → Mac → SwitchView → SwitchStep
forgets_members port amac v = members_become v (filter (λ m. not (is_member port amac m)) v.members)

abbrev pub invalidates : SwitchView → Pmac → Trap → Option Grant → SwitchStep
invalidates v old trap None = rests v
invalidates v old trap (Some grant) =
    does (sets_trap v old grant trap) [] ▹ forgets_members old.port grant.amac ▹ probes old grant

-- an address is free from then on, and stands behind the other free ones of its port
abbrev pub becomes_free : SwitchView → Pmac → Grant → SwitchView
becomes_free v address grant = record (with_grant v address (record grant { held = Free })) {
  freed = slice_set v.freed address.port (freed_at v address.port ++ address.vmid ∷ []);
}

-- the manager releases an address: where it rests, it is free
abbrev pub frees_at : SwitchView → Pmac → Grant → AddressUse → SwitchStep
frees_at v address grant (Resting number) = does (becomes_free v address grant) (FreeAct address ∷ [])
frees_at v address grant held = rests v

abbrev pub frees : SwitchView → Pmac → Option Grant → SwitchStep
frees v address None = rests v
frees v address (Some grant) = frees_at v address grant grant.held

-- A message about an address that this switch never granted changes nothing; nor does one that invalidates a free address, or releases one that does
-- not rest.
abbrev pub hears_manager : Choice → SwitchView → ToSwitch → SwitchStep
hears_manager choose v (Pod pod) = hears_pod v pod
hears_manager choose v (Avoid list) = rests (record v { avoid = list })
hears_manager choose v (Tree group part) = rests (record v { parts = with_part group part v.parts })
hears_manager choose v (Answer asker asker_ip ip pmac) =
    if is_granted v asker then makes choose (answer_frame asker asker_ip ip pmac) v else rests v
hears_manager choose v (Flood asker asker_ip ip) =
    if is_granted v asker then floods v (flood_frame asker asker_ip ip) else rests v
hears_manager choose v (Invalidate old new number ip) =
    invalidates v old (record { new = new; number = number; ip = ip }) (held_here v old)
hears_manager choose v (Release address) = frees v address (granted v address)
hears_manager choose v (Hello epoch) = hears_hello v epoch
