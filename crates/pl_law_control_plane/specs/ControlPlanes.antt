-- What the switches and the manager know, and what of discovery waits in the queues: of a world no more than that, as functions of switches and
-- ports.
use Rattle.std.specs.Prelude.{◌≡◌, ℕ, ◌==◌, Bool, true, false, if◌then◌else◌, List, [], ◌∷◌, Result, Ok, Err, slice_index_or}
use Rattle.std.specs.List.{flat_map, list_any}
use Rattle.pl_frame.specs.Ethernet.{payload_of}
use Rattle.pl_layouts.specs.declared.control.Control.{Control}
use Rattle.pl_layouts.specs.declared.control.ControlError.{ControlError}
use Rattle.pl_layouts.specs.Control.{control_in}
use Rattle.pl_wiring.specs.declared.link.Peer.TheVariants.{Switch}
use Rattle.pl_wiring.specs.Index.{entry_at}
use Rattle.pl_wiring.specs.Peers.{peer_of}
use Rattle.pl_wiring.specs.Plan.{Plan}
use Rattle.pl_node.specs.declared.acts.Act.{Act}
use Rattle.pl_node.specs.declared.acts.Act.TheVariants as act
use Rattle.pl_node.specs.declared.messages.ToManager.{ToManager}
use Rattle.pl_node.specs.declared.messages.ToSwitch.{ToSwitch}
use Rattle.pl_node.specs.ManagerViews.{ManagerView}
use Rattle.pl_node.specs.SwitchFacts.{switch_at_boot}
use Rattle.pl_node.specs.SwitchViews.{SwitchView}
use Rattle.pl_queues.specs.Queues.{items_at}
use Rattle.pl_world.specs.declared.item.Item.{Item}
use Rattle.pl_world.specs.declared.item.Item.TheVariants.{Control as ControlItem, Data}
use Rattle.pl_world.specs.Worlds.{WorldView}

pub record ControlPlane : Type 0 where
  pub plan : Plan
  -- what a switch knows
  pub view : ℕ → SwitchView
  -- the messages in the control frames that wait in the queue out of a port of a switch, and whether a data frame waits there
  pub says : ℕ → ℕ → List Control
  pub carries : ℕ → ℕ → Bool
  -- what waits between a switch and the manager
  pub reports : ℕ → List ToManager
  pub orders : ℕ → List ToSwitch
  pub manager : ManagerView

-- what a control frame says, if it can be read
unfoldable pub message_in : List ℕ → Result Control ControlError
message_in frame = control_in (payload_of frame)

abbrev pub messages_of : Result Control ControlError → List Control
messages_of (Ok c) = c ∷ []
messages_of (Err e) = []

abbrev pub said_by : Item → List Control
said_by (ControlItem frame) = messages_of (message_in frame)
said_by (Data id frame) = []

abbrev pub said : List Item → List Control
said items = flat_map said_by items

abbrev pub is_data_item : Item → Bool
is_data_item (ControlItem frame) = false
is_data_item (Data id frame) = true

abbrev pub has_data : List Item → Bool
has_data items = list_any is_data_item items

-- what stands for a switch that is not there
abbrev pub no_switch : SwitchView
no_switch = switch_at_boot (record { 0 = 0 }) 0

-- the queue out of a port; there is none out of a port that is not there
abbrev pub queue_out : ℕ → List (List Item) → ℕ → ℕ → List Item
queue_out k out s port = entry_at [] k out s port

abbrev pub plane : Plan → List SwitchView → List (List Item) → List (List ToManager) → List (List ToSwitch) → ManagerView → ControlPlane
plane plan switches out to_manager from_manager manager = record {
  plan = plan;
  view = λ s. slice_index_or switches s no_switch;
  says = λ s port. said (queue_out plan.k out s port);
  carries = λ s port. has_data (queue_out plan.k out s port);
  reports = λ s. items_at to_manager s;
  orders = λ s. items_at from_manager s;
  manager = manager;
}

-- the control plane of a world
abbrev pub control_plane : WorldView → ControlPlane
control_plane w = plane w.plan w.switches w.out w.to_manager w.from_manager w.manager

-- a link leads from a port of one switch to a port of another
abbrev pub AreAdjacent : Plan → ℕ → ℕ → ℕ → ℕ → Type 0
AreAdjacent plan s p t q = peer_of plan s p ≡ Switch (record { 0 = t }) q

-- What acts send: the messages out of a port, whether a data frame leaves by it, and what the manager is told.

abbrev pub sent_by : ℕ → Act → List Control
sent_by port (act.Control at frame) = if at == port then messages_of (message_in frame) else []
sent_by port a = []

abbrev pub sends : ℕ → List Act → List Control
sends port acts = flat_map (sent_by port) acts

abbrev pub is_pass : ℕ → Act → Bool
is_pass port (act.Pass at frame) = at == port
is_pass port a = false

abbrev pub passes : ℕ → List Act → Bool
passes port acts = list_any (is_pass port) acts

abbrev pub told_by : Act → List ToManager
told_by (act.Tell told) = told ∷ []
told_by a = []

abbrev pub tells : List Act → List ToManager
tells acts = flat_map told_by acts

-- what is sent over a failed link is lost
abbrev pub unless : {T : Type 0} → Bool → List T → List T
unless failed items = if failed then [] else items
