-- What an edge switch keeps of the hosts at its ports, and the part of the switch that it is.
use Rattle.std.specs.Prelude.{◌≡◌, ◌≤◌, ℕ, false, List, [], ◌++◌, length, replicate, Option, Some, None, slice_index_or, slice_set}
use Rattle.pl_frame.specs.declared.address.Ip4.{Ip4}
use Rattle.pl_frame.specs.declared.address.Mac.{Mac}
use Rattle.pl_pmac.specs.declared.pmac.Pmac.{Pmac}
use Rattle.pl_layouts.specs.declared.place.Place.{Place}
use Rattle.pl_layouts.specs.Placement.{is_placed}
use Rattle.pl_node.specs.declared.switch_records.Grant.{Grant}
use Rattle.pl_node.specs.declared.switch_records.Member.{Member}
use Rattle.pl_node.specs.declared.switch_records.Source.{Source}
use Rattle.pl_node.specs.SwitchViews.{SwitchView}
use Rattle.pl_switch_rule.specs.Granting.{or_else, remembered_ip}
use Rattle.pl_migrate.specs.declared.grantee.Grantee.{Grantee}
use Rattle.pl_migrate.specs.AddressTables.{AddressTableView, edge_at, empty_address_table, granted_in, grantee_in}
use Rattle.pl_migrate.specs.Keeping.{IsCaughtUp, KeepsGrants, KeepsTraps}

pub record EdgeView : Type 0 where
  pub k : ℕ
  -- none while the switch is not placed
  pub address_table : Option AddressTableView
  -- one for each port
  pub remembered : List (Option Source)
  -- rising by group, port and address
  pub members : List Member

-- an edge switch of k ports that has heard nothing
abbrev pub new_edge : ℕ → EdgeView
new_edge k = record { k = k; address_table = None; remembered = replicate k None; members = [] }

abbrev pub place_by : Option AddressTableView → Place → Place
place_by None place = place
place_by (Some address_table) place = edge_at address_table.pod address_table.position

abbrev pub grants_by : Option AddressTableView → ℕ → List (List Grant)
grants_by None k = replicate k []
grants_by (Some address_table) k = address_table.grants

abbrev pub used_by : Option AddressTableView → List Pmac
used_by None = []
used_by (Some address_table) = address_table.asked ++ address_table.fresh

abbrev pub trapped_by : Option AddressTableView → List Pmac
trapped_by None = []
trapped_by (Some address_table) = address_table.trapped

abbrev pub freed_by : Option AddressTableView → ℕ → List (List ℕ)
freed_by None k = replicate k []
freed_by (Some address_table) k = address_table.freed

-- a switch with this part; as long as it is not placed, it has granted nothing
abbrev pub edge_in : EdgeView → SwitchView → SwitchView
edge_in edge v = record v {
  place = place_by edge.address_table v.place;
  grants = grants_by edge.address_table edge.k;
  used = used_by edge.address_table;
  trapped = trapped_by edge.address_table;
  freed = freed_by edge.address_table edge.k;
  remembered = edge.remembered;
  members = edge.members;
}

-- a switch without an address table is not placed
abbrev pub MayBeAt : Option AddressTableView → Place → Type 0
MayBeAt None place = is_placed place ≡ false
MayBeAt (Some address_table) place = Unit {0}

-- it becomes placed, and has granted nothing yet
abbrev pub placed_at : ℕ → ℕ → EdgeView → EdgeView
placed_at pod position edge = record edge { address_table = Some (empty_address_table edge.k pod position) }

-- what was granted under an address, also where it is free
abbrev pub granted_by : Option AddressTableView → Pmac → Option Grant
granted_by None address = None
granted_by (Some address_table) address = granted_in address_table address

-- whose an address is, and at which port
abbrev pub grantee_by : Option AddressTableView → Pmac → Option Grantee
grantee_by None address = None
grantee_by (Some address_table) address = grantee_in address_table address

-- an address table has the grants of each port, and nothing in it is due
abbrev pub HasGrantsOfPorts : Option AddressTableView → ℕ → Type 0
HasGrantsOfPorts None k = Unit {0}
HasGrantsOfPorts (Some address_table) k = (length address_table.grants ≡ k) × IsCaughtUp address_table

pub record IsOfPorts (k : ℕ) (address_table : Option AddressTableView) (remembered : List (Option Source)) : Type 0 where
  pub few : k ≤ 24
  pub sources : length remembered ≡ k
  pub grants : HasGrantsOfPorts address_table k

-- what was granted stays granted, and each trap stands
abbrev pub KeepsAddressTable : Option AddressTableView → Option AddressTableView → Type 0
KeepsAddressTable None None = Unit {0}
KeepsAddressTable (Some old) (Some new) = KeepsGrants old new × KeepsTraps old new
KeepsAddressTable _ _ = ⊥

pub record KeepsEdge (old new : EdgeView) : Type 0 where
  pub k : new.k ≡ old.k
  pub address_table : KeepsAddressTable old.address_table new.address_table

-- a port's last source is remembered, with the IPv4 address that it gave since it became that
abbrev pub with_source : List (Option Source) → ℕ → Mac → Option Ip4 → List (Option Source)
with_source remembered port amac ip =
    slice_set remembered port (Some (record { amac = amac; ip = or_else ip (remembered_ip (slice_index_or remembered port None) amac) }))
