-- What a learning bridge does in a step.
use Rattle.std.specs.Prelude.{◌≡◌, ℕ, ◌==◌, ◌&&◌, not, true, Bool, if◌then◌else◌, List, [], ◌∷◌, map, Option, None, Some}
use Rattle.std.specs.BTreeSet.{insert_key}
use Rattle.std.specs.List.{filter, find, list_any}
use Rattle.pl_frame.specs.declared.address.Mac.{Mac}
use Rattle.pl_frame.specs.Ethernet.{destination_of, source_of}
use Rattle.pl_layouts.specs.Control.{is_control}
use Rattle.pl_layouts.specs.Equality.{same_mac}
use Rattle.pl_layouts.specs.Memberships.{is_group}
use Rattle.pl_journal.specs.declared.cause.Cause.TheVariants.{NoNextHop}
use Rattle.pl_node.specs.declared.acts.Act.{Act}
use Rattle.pl_node.specs.declared.acts.Act.TheVariants.{Drop, Pass}
use Rattle.pl_node.specs.declared.switch_records.Member.{Member}
use Rattle.pl_node.specs.PortRecords.{ports_of_switch}
use Rattle.pl_node.specs.SwitchInputs.{SwitchInput}
use Rattle.pl_node.specs.SwitchInputs.SwitchInput.{Comes, Says, Tick}
use Rattle.pl_node.specs.SwitchViews.{SwitchView}
use Rattle.pl_steps.specs.Steps.{SwitchStep, rests}
use Rattle.pl_switch_rule.specs.Intake.{member_cmp}

-- The bridge's table stands among the members: an address at a port is a member of group 0 there.
abbrev pub table_entry : ℕ → Mac → Member
table_entry port mac = record { group = 0; port = port; amac = mac }

abbrev pub is_entry_of : Mac → Member → Bool
is_entry_of mac m = (m.group == 0) && same_mac m.amac mac

-- an address stands at this port
abbrev pub stands_at : List Member → Mac → ℕ → Bool
stands_at members mac port = list_any (λ (m : Member). is_entry_of mac m && (m.port == port)) members

-- each address stands at one port at most
abbrev pub AreAtOnePort : List Member → Type 0
AreAtOnePort members = (mac : Mac) (p q : ℕ) → stands_at members mac p ≡ true → stands_at members mac q ≡ true → p ≡ q

-- the lowest of k ports where an address stands
unfoldable pub port_among : ℕ → List Member → Mac → Option ℕ
port_among k members mac = find (stands_at members mac) (ports_of_switch k)

-- the port of an address
abbrev pub port_for : SwitchView → Mac → Option ℕ
port_for v mac = port_among v.k v.members mac

-- an address stands at this port from now on, and at no other
abbrev pub learns : ℕ → Mac → List Member → List Member
learns port mac members = insert_key member_cmp (filter (λ m. not (is_entry_of mac m)) members) (table_entry port mac)

-- the source of a frame is learnt, unless it names a group
abbrev pub learns_source : ℕ → List ℕ → List Member → List Member
learns_source port frame members = if is_group (source_of frame) then members else learns port (source_of frame) members

abbrev pub with_source : SwitchView → ℕ → List ℕ → SwitchView
with_source v port frame = record v { members = learns_source port frame v.members }

-- all ports but one, rising
abbrev pub other_ports : ℕ → ℕ → List ℕ
other_ports k port = filter (λ p. not (p == port)) (ports_of_switch k)

-- A frame goes to the port of its destination, and ends where it came from there; without an entry it goes to all other ports.
abbrev pub goes_on : ℕ → ℕ → List ℕ → Option ℕ → List Act
goes_on k port frame None = map (λ p. Pass p frame) (other_ports k port)
goes_on k port frame (Some out) = if out == port then Drop NoNextHop ∷ [] else Pass out frame ∷ []

abbrev pub bridges : SwitchView → ℕ → List ℕ → SwitchStep
bridges v port frame = record {
  view = with_source v port frame;
  acts = goes_on v.k port frame (port_for (with_source v port frame) (destination_of frame));
}

-- control frames, ticks and the fabric manager change nothing
abbrev pub bridge_step : SwitchView → SwitchInput → SwitchStep
bridge_step v (Comes port frame) = if is_control frame then rests v else bridges v port frame
bridge_step v Tick = rests v
bridge_step v (Says says) = rests v

-- the old view and the input lead to the new view, with these acts
pub record Bridges (old : SwitchView) (input : SwitchInput) (new : SwitchView) (acts : List Act) : Type 0 where
  pub view : new ≡ (bridge_step old input).view
  pub done : acts ≡ (bridge_step old input).acts
