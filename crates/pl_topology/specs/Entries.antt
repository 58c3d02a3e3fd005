-- What the tables of a topology file say, read one by one.
use Rattle.std.specs.Prelude.{ℕ, ◌<◌, ℤ, pos, negsuc, Bool, false, ◌&&◌, ◌||◌, ◌==◌, nat_lt, nat_le, if◌then◌else◌, List, Option, Some, None, option_map, option_and_then, Result, Ok}
use Rattle.std.specs.List.{list_any}
use Rattle.toml.specs.Data.{Data, Members, as_str}
use Rattle.pl_frame.specs.declared.address.SwitchId.{SwitchId}
use Rattle.pl_topology.specs.declared.error.TopologyError.{TopologyError}
use Rattle.pl_topology.specs.declared.error.TopologyError.TheVariants as error
use Rattle.pl_topology.specs.declared.key.Key.TheVariants as key
use Rattle.pl_topology.specs.declared.key.Key.{Key}
use Rattle.pl_wiring.specs.declared.label.SwitchNo.{SwitchNo}
use Rattle.pl_wiring.specs.declared.label.Label.{Label}
use Rattle.pl_wiring.specs.declared.label.Label.TheVariants.{Edge}
use Rattle.pl_topology.specs.declared.entries.SwitchEntry.{SwitchEntry}
use Rattle.pl_topology.specs.declared.entries.LinkEntry.{LinkEntry}
use Rattle.pl_topology.specs.declared.entries.HostEntry.{HostEntry}
use Rattle.pl_topology.specs.Document.{value_at, text_at, integer_at}
use Rattle.pl_wiring.specs.Labels.{edge_count, switch_count}
use Rattle.pl_topology.specs.Refusal.{◌>>=◌, or_refused, refused_if}
use Rattle.pl_wiring.specs.Texts.{mac_of_text, ip_of_text, is_name, is_capture}
use Rattle.pl_wiring.specs.SwitchNames.{switch_named}

abbrev pub switch_at : ℕ → Key → Members → Option SwitchNo
switch_at k key members = option_and_then (switch_named k) (text_at key members)

-- an id is 1 to 2 ^ 48 - 1
abbrev pub id_if : ℤ → Option SwitchId
id_if (pos n) = if nat_le 1 n && nat_lt n 281474976710656 then Some (record { 0 = n }) else None
id_if (negsuc n) = None

abbrev pub is_of : SwitchNo → SwitchEntry → Bool
is_of switch entry = entry.switch.0 == switch.0

-- a table that gives a switch another id, after those before it
unfoldable pub switch_entry : ℕ → List SwitchEntry → Members → Result SwitchEntry TopologyError
switch_entry k before members = do
  switch ← or_refused (switch_at k key.Label members) (error.BadValue key.Label)
  _ ← refused_if (list_any (is_of switch) before) (error.BadValue key.Label)
  id ← or_refused (option_and_then id_if (integer_at key.Id members)) (error.BadValue key.Id)
  Ok (record { switch = switch; id = id })

-- the entry is of the link between these two
abbrev pub is_between : SwitchNo → SwitchNo → LinkEntry → Bool
is_between a b entry = (entry.a.0 == a.0 && entry.b.0 == b.0) || (entry.a.0 == b.0 && entry.b.0 == a.0)

abbrev pub is_again : SwitchNo → Option SwitchNo → List LinkEntry → Bool
is_again a None before = false
is_again a (Some b) before = list_any (is_between a b) before

-- a table that gives a link other ports, after those before it
unfoldable pub link_entry : ℕ → List LinkEntry → Members → Result LinkEntry TopologyError
link_entry k before members = do
  a ← or_refused (switch_at k key.A members) (error.BadValue key.A)
  _ ← refused_if (is_again a (switch_at k key.B members) before) (error.BadValue key.A)
  port_a ← or_refused (integer_at key.PortA members) (error.BadValue key.PortA)
  b ← or_refused (switch_at k key.B members) (error.BadValue key.B)
  port_b ← or_refused (integer_at key.PortB members) (error.BadValue key.PortB)
  Ok (record { a = a; port_a = port_a; b = b; port_b = port_b })

abbrev pub name_if : List ℕ → Option (List ℕ)
name_if text = if is_name text then Some text else None

abbrev pub capture_if : List ℕ → Option (List ℕ)
capture_if text = if is_capture text then Some text else None

-- the label of an edge switch
abbrev pub edge_if : ℕ → SwitchNo → Option SwitchNo
edge_if k switch = if nat_lt switch.0 (edge_count k) then Some switch else None

-- a capture's name may be left out
abbrev pub capture_of : Option Data → Option (Option (List ℕ))
capture_of None = Some None
capture_of (Some value) = option_map (λ name. Some name) (option_and_then capture_if (as_str value))

unfoldable pub host_entry : ℕ → Members → Result HostEntry TopologyError
host_entry k members = do
  name ← or_refused (option_and_then name_if (text_at key.Name members)) (error.BadValue key.Name)
  mac ← or_refused (option_and_then mac_of_text (text_at key.Mac members)) (error.BadValue key.Mac)
  ip ← or_refused (option_and_then ip_of_text (text_at key.Ip members)) (error.BadValue key.Ip)
  edge ← or_refused (option_and_then (edge_if k) (switch_at k key.Edge members)) (error.BadValue key.Edge)
  port ← or_refused (integer_at key.Port members) (error.BadValue key.Port)
  capture ← or_refused (capture_of (value_at key.Capture members)) (error.BadValue key.Capture)
  Ok (record { name = name; mac = mac; ip = ip; edge = edge; port = port; capture = capture })

-- the entry speaks of switches of the tree
abbrev pub NamesSwitches : ℕ → LinkEntry → Type 0
NamesSwitches k entry = (entry.a.0 < switch_count k) × (entry.b.0 < switch_count k)

abbrev pub HasEdge : ℕ → HostEntry → Type 0
HasEdge k host = host.edge.0 < switch_count k
