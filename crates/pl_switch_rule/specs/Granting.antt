-- The addresses that an edge switch grants to the hosts at its ports, and what it learns of them (PortLand, section 3.2).
use Rattle.std.specs.Prelude.{ℕ, ◌+◌, ◌-◌, ◌==◌, ◌&&◌, not, nat_lt, Bool, if◌then◌else◌, List, [], ◌∷◌, ◌++◌, length, Option, Some, None, is_some, slice_get, slice_index_or, slice_set, option_map, unwrap_or}
use Rattle.std.specs.List.{filter, position_from}
use Rattle.pl_frame.specs.declared.address.Ip4.{Ip4}
use Rattle.pl_frame.specs.declared.address.Mac.{Mac}
use Rattle.pl_frame.specs.Ethernet.{source_of}
use Rattle.pl_pmac.specs.declared.pmac.Pmac.{Pmac}
use Rattle.pl_node.specs.declared.acts.Act.TheVariants.{Grant as GrantAct, Tell}
use Rattle.pl_node.specs.declared.messages.ToManager.TheVariants.{Learned}
use Rattle.pl_layouts.specs.Frames.{packet_in}
use Rattle.pl_layouts.specs.Placement.{is_known, is_placed}
use Rattle.pl_steps.specs.Steps.{SwitchStep, rests, ◌▹◌}
use Rattle.pl_node.specs.AddressUses.{is_held, is_in_use}
use Rattle.pl_node.specs.declared.address_use.AddressUse.TheVariants.{InUse}
use Rattle.pl_node.specs.declared.switch_records.Grant.{Grant}
use Rattle.pl_node.specs.declared.switch_records.Source.{Source}
use Rattle.pl_node.specs.SwitchViews.{SwitchView}
use Rattle.pl_layouts.specs.Equality.{is_ip, same_mac, same_pmac}

-- the address number vmid of a port; vmids begin at 1
abbrev pub address_at_port : SwitchView → ℕ → ℕ → Pmac
address_at_port v port vmid =
    record { pod = unwrap_or v.place.pod 0; position = unwrap_or v.place.position 0; port = port; vmid = vmid }

-- an address with the pod and the position of this edge switch
abbrev pub is_local : SwitchView → Pmac → Bool
is_local v address =
    is_known v.place.level 0 && (is_known v.place.pod address.pod && is_known v.place.position address.position)

abbrev pub grants_at : SwitchView → ℕ → List Grant
grants_at v port = slice_index_or v.grants port []

abbrev pub grant_number : List Grant → ℕ → Option Grant
grant_number grants vmid = if vmid == 0 then None else slice_get grants (vmid - 1)

-- what was granted here under an address, also where it is free
abbrev pub granted : SwitchView → Pmac → Option Grant
granted v address = if is_local v address then grant_number (grants_at v address.port) address.vmid else None

abbrev pub is_granted : SwitchView → Pmac → Bool
is_granted v address = is_some (granted v address)

abbrev pub unless_free : Option Grant → Option Grant
unless_free None = None
unless_free (Some grant) = if is_held grant.held then Some grant else None

-- the same of an address that is not free: it is somebody's
abbrev pub held_here : SwitchView → Pmac → Option Grant
held_here v address = unless_free (granted v address)

-- the vmid of the address that a source has in use at a port
abbrev pub in_use : List Grant → Mac → Option ℕ
in_use grants amac = position_from (λ grant. is_in_use grant.held && same_mac grant.amac amac) 1 grants

abbrev pub with_grants : SwitchView → ℕ → List Grant → SwitchView
with_grants v port grants = record v { grants = slice_set v.grants port grants }

-- what was granted under an address is changed
abbrev pub with_grant : SwitchView → Pmac → Grant → SwitchView
with_grant v address grant = with_grants v address.port (slice_set (grants_at v address.port) (address.vmid - 1) grant)

abbrev pub new_grant : Mac → Option Ip4 → Grant
new_grant amac ip = record { amac = amac; ip = ip; held = InUse 0 }

-- the vmids of the free addresses of a port, the one that was freed first before all others
abbrev pub freed_at : SwitchView → ℕ → List ℕ
freed_at v port = slice_index_or v.freed port []

-- the vmid that a port gives next: that of the address that was freed first; where none is free, the next one, as long as there is one
abbrev pub next_vmid : List ℕ → List Grant → Option ℕ
next_vmid (vmid ∷ freed) grants = Some vmid
next_vmid [] grants = if nat_lt (length grants) 65535 then Some (length grants + 1) else None

abbrev pub with_next : List ℕ → List Grant → Grant → List Grant
with_next (vmid ∷ freed) grants grant = slice_set grants (vmid - 1) grant
with_next [] grants grant = grants ++ grant ∷ []

abbrev pub all_but_first : List ℕ → List ℕ
all_but_first [] = []
all_but_first (vmid ∷ freed) = freed

-- addresses in order, without one of them
abbrev pub without : Pmac → List Pmac → List Pmac
without address addresses = filter (λ other. not (same_pmac other address)) addresses

-- and with that one behind all others
abbrev pub behind : Pmac → List Pmac → List Pmac
behind address addresses = without address addresses ++ address ∷ []

-- a new address of a port is granted, which is used from then on, and the manager is told
abbrev pub grants_new : SwitchView → ℕ → Mac → Option Ip4 → Pmac → SwitchStep
grants_new v port amac ip address = record {
  view = record (with_grants v port (with_next (freed_at v port) (grants_at v port) (new_grant amac ip))) {
    freed = slice_set v.freed port (all_but_first (freed_at v port));
    used = v.used ++ address ∷ [];
  };
  acts = GrantAct address amac ∷ Tell (Learned address amac ip) ∷ [];
}

-- where every vmid was given, and no address is free, none is granted
abbrev pub grants_next : SwitchView → ℕ → Mac → Option Ip4 → Option ℕ → SwitchStep
grants_next v port amac ip None = rests v
grants_next v port amac ip (Some vmid) = grants_new v port amac ip (address_at_port v port vmid)

-- a host uses its address, which is the one that was used last from then on
abbrev pub uses : SwitchView → Pmac → Grant → SwitchView
uses v address grant = record (with_grant v address (record grant { held = InUse 0 })) { used = behind address v.used }

-- A frame uses an address in use, and may give it an IPv4 address: where that is new, it is kept, and the manager is told.
abbrev pub learns_ip : SwitchView → Pmac → Option Grant → Option Ip4 → SwitchStep
learns_ip v address None ip = rests v
learns_ip v address (Some grant) None = rests (uses v address grant)
learns_ip v address (Some grant) (Some ip) =
    if is_ip grant.ip ip then rests (uses v address grant) else record {
      view = uses v address (record grant { ip = Some ip });
      acts = Tell (Learned address grant.amac (Some ip)) ∷ [];
    }

-- the last vmid of the port was given, and no address of it is free
abbrev pub is_port_spent : SwitchView → ℕ → Bool
is_port_spent v port = not (is_some (next_vmid (freed_at v port) (grants_at v port)))

-- A source comes at a port of a placed edge switch: it has an address in use there, or is granted the next one while there is one.
abbrev pub grants_or_learns : SwitchView → ℕ → Mac → Option Ip4 → Option ℕ → SwitchStep
grants_or_learns v port amac ip (Some vmid) =
    learns_ip v (address_at_port v port vmid) (grant_number (grants_at v port) vmid) ip
grants_or_learns v port amac ip None = grants_next v port amac ip (next_vmid (freed_at v port) (grants_at v port))

-- the IPv4 address that a remembered source gave
abbrev pub remembered_ip : Option Source → Mac → Option Ip4
remembered_ip None amac = None
remembered_ip (Some source) amac = if same_mac source.amac amac then source.ip else None

abbrev pub or_else : Option Ip4 → Option Ip4 → Option Ip4
or_else None other = other
or_else (Some ip) other = Some ip

abbrev pub remembered_at : SwitchView → ℕ → Option Source
remembered_at v port = slice_index_or v.remembered port None

-- an edge switch that is not placed remembers the last source of each port, and the IPv4 address that it gave since it became that
abbrev pub remembers : SwitchView → ℕ → Mac → Option Ip4 → SwitchStep
remembers v port amac ip = rests (record v {
  remembered = slice_set v.remembered port (Some (record { amac = amac; ip = or_else ip (remembered_ip (remembered_at v port) amac) }));
})

-- the sender's IPv4 address in an ARP packet that can be read
abbrev pub sender_ip : List ℕ → Option Ip4
sender_ip frame = option_map (λ arp. arp.spa) (packet_in frame)

-- The source of a frame that a host sends is learnt.
abbrev pub learns_source : SwitchView → ℕ → List ℕ → SwitchStep
learns_source v port frame =
    if is_placed v.place then
    grants_or_learns v port (source_of frame) (sender_ip frame) (in_use (grants_at v port) (source_of frame))
    else remembers v port (source_of frame) (sender_ip frame)

-- the source has no address, since the port has none to give
abbrev pub has_no_address : SwitchView → ℕ → Mac → Bool
has_no_address v port amac = is_placed v.place && not (is_some (in_use (grants_at v port) amac))

-- what a port remembers is granted an address
abbrev pub grants_source : SwitchView → ℕ → Option Source → SwitchStep
grants_source v port None = rests v
grants_source v port (Some source) = grants_or_learns v port source.amac source.ip (in_use (grants_at v port) source.amac)

abbrev pub forgets : ℕ → SwitchView → SwitchStep
forgets port v = rests (record v { remembered = slice_set v.remembered port None })

-- and so for each of these ports, and nothing is remembered there any more
unfoldable pub grants_remembered : List ℕ → SwitchView → SwitchStep
grants_remembered [] v = rests v
grants_remembered (port ∷ ports) v = grants_source v port (remembered_at v port) ▹ forgets port ▹ grants_remembered ports
