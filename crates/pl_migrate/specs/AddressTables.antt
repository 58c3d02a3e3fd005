-- The address table of an edge switch that is placed, and the part of the switch that it is.
use Rattle.std.specs.Prelude.{ℕ, ◌==◌, ◌&&◌, nat_le, not, Bool, true, false, if◌then◌else◌, List, [], ◌∷◌, ◌++◌, Option, Some, None, is_some, replicate, slice_index_or}
use Rattle.pl_frame.specs.declared.address.Ip4.{Ip4}
use Rattle.pl_frame.specs.declared.address.Mac.{Mac}
use Rattle.pl_pmac.specs.declared.pmac.Pmac.{Pmac}
use Rattle.pl_layouts.specs.declared.place.Place.{Place}
use Rattle.pl_node.specs.AddressUses.{is_in_use}
use Rattle.pl_node.specs.declared.address_use.AddressUse.{AddressUse}
use Rattle.pl_node.specs.declared.switch_records.Grant.{Grant}
use Rattle.pl_node.specs.declared.switch_records.Source.{Source}
use Rattle.pl_node.specs.declared.trap.Trap.{Trap}
use Rattle.pl_node.specs.SwitchViews.{SwitchView}
use Rattle.pl_node.specs.declared.acts.Act.TheVariants.{Tell}
use Rattle.pl_node.specs.declared.messages.ToManager.TheVariants.{Learned}
use Rattle.pl_steps.specs.Steps.{SwitchStep}
use Rattle.pl_switch_rule.specs.Delivering.{grant_trap}
use Rattle.pl_switch_rule.specs.Granting.{grant_number, in_use, next_vmid, unless_free, uses, with_grant}
use Rattle.pl_switch_rule.specs.Messages.{sets_trap}
use Rattle.pl_migrate.specs.declared.grantee.Grantee.{Grantee}

-- the edge switch's pod and position, and for each port the grants in the order of their vmids
pub record AddressTableView : Type 0 where
  pub pod : ℕ
  pub position : ℕ
  pub grants : List (List Grant)
  -- the addresses in use, in the order of last use: those whose hosts were asked since, and behind them those whose hosts were not
  pub asked : List Pmac
  pub fresh : List Pmac
  -- those with a trap, in the order of setting
  pub trapped : List Pmac
  -- for each port the vmids of its free addresses, in the order in which they were freed
  pub freed : List (List ℕ)

abbrev pub edge_at : ℕ → ℕ → Place
edge_at pod position = record { level = Some 0; position = Some position; pod = Some pod }

-- a switch with the place of an address table, and all that it says of addresses
abbrev pub address_table_in : AddressTableView → SwitchView → SwitchView
address_table_in address_table v = record v {
  place = edge_at address_table.pod address_table.position;
  grants = address_table.grants;
  used = address_table.asked ++ address_table.fresh;
  trapped = address_table.trapped;
  freed = address_table.freed;
}

-- and with what is remembered of the sources at its ports
abbrev pub sources_in : AddressTableView → List (Option Source) → SwitchView → SwitchView
sources_in address_table remembered v = record (address_table_in address_table v) { remembered = remembered }

abbrev pub empty_address_table : ℕ → ℕ → ℕ → AddressTableView
empty_address_table k pod position = record {
  pod = pod;
  position = position;
  grants = replicate k [];
  asked = [];
  fresh = [];
  trapped = [];
  freed = replicate k [];
}

abbrev pub address_in : AddressTableView → ℕ → ℕ → Pmac
address_in address_table port vmid = record { pod = address_table.pod; position = address_table.position; port = port; vmid = vmid }

-- an address with the pod and the position of this edge switch
abbrev pub is_here : AddressTableView → Pmac → Bool
is_here address_table address = (address_table.pod == address.pod) && (address_table.position == address.position)

abbrev pub grants_of : AddressTableView → ℕ → List Grant
grants_of address_table port = slice_index_or address_table.grants port []

abbrev pub freed_of : AddressTableView → ℕ → List ℕ
freed_of address_table port = slice_index_or address_table.freed port []

-- what was granted under an address, also where it is free
abbrev pub granted_in : AddressTableView → Pmac → Option Grant
granted_in address_table address = if is_here address_table address then grant_number (grants_of address_table address.port) address.vmid else None

-- the same of an address that is not free
abbrev pub held_in : AddressTableView → Pmac → Option Grant
held_in address_table address = unless_free (granted_in address_table address)

abbrev pub grantee_at : Pmac → Option Grant → Option Grantee
grantee_at address None = None
grantee_at address (Some grant) = Some (record { amac = grant.amac; port = address.port })

-- whose an address is, and at which port
abbrev pub grantee_in : AddressTableView → Pmac → Option Grantee
grantee_in address_table address = grantee_at address (held_in address_table address)

-- the trap that stands for an address
abbrev pub trap_in : AddressTableView → Pmac → Option Trap
trap_in address_table address = grant_trap (granted_in address_table address)

abbrev pub is_used : Option Grant → Bool
is_used None = false
is_used (Some grant) = is_in_use grant.held

abbrev pub is_address_in_use : AddressTableView → Pmac → Bool
is_address_in_use address_table address = is_used (granted_in address_table address)

abbrev pub numbered : AddressTableView → ℕ → Option ℕ → Option Pmac
numbered address_table port None = None
numbered address_table port (Some vmid) = Some (address_in address_table port vmid)

-- the address that a host has in use at a port
abbrev pub address_in_use : AddressTableView → ℕ → Mac → Option Pmac
address_in_use address_table port amac = numbered address_table port (in_use (grants_of address_table port) amac)

-- the address that a port gives next; none where every vmid was given, and no address is free
abbrev pub next_address : AddressTableView → ℕ → Option Pmac
next_address address_table port = numbered address_table port (next_vmid (freed_of address_table port) (grants_of address_table port))

abbrev pub is_spent : AddressTableView → ℕ → Bool
is_spent address_table port = not (is_some (next_vmid (freed_of address_table port) (grants_of address_table port)))

-- what an address is used for, where it was granted
abbrev pub use_of : Option Grant → Option AddressUse
use_of None = None
use_of (Some grant) = Some grant.held

-- a trap is set for an address; one that is nobody's stays as it is
abbrev pub traps : SwitchView → Pmac → Trap → Option Grant → SwitchView
traps v old trap None = v
traps v old trap (Some grant) = sets_trap v old grant trap

-- a trap takes the place of the one that stands, unless that has a larger number
abbrev pub takes_over : Trap → Option Trap → Bool
takes_over trap None = true
takes_over trap (Some standing) = nat_le standing.number trap.number

-- an address is used again, where it was granted
abbrev pub used_if : SwitchView → Pmac → Option Grant → SwitchView
used_if v address None = v
used_if v address (Some grant) = uses v address grant

-- this is its IPv4 address
abbrev pub with_ip : SwitchView → Pmac → Ip4 → Option Grant → SwitchView
with_ip v address ip None = v
with_ip v address ip (Some grant) = with_grant v address (record grant { ip = Some ip })

-- a frame uses an address, and gives it an IPv4 address that is new, of which the manager is told
abbrev pub takes_ip : SwitchView → Pmac → Grant → Ip4 → SwitchStep
takes_ip v address grant ip = record {
  view = uses v address (record grant { ip = Some ip });
  acts = Tell (Learned address grant.amac (Some ip)) ∷ [];
}
