-- What a switch does in a step, by what comes.
use Rattle.std.specs.Prelude.{◌≡◌, ℕ, ◌%◌, ◌||◌, not, if◌then◌else◌, List, [], ◌∷◌, length, Some, None, is_none, Result, Ok, Err, slice_get}
use Rattle.std.specs.List.{IsAmong}
use Rattle.pl_frame.specs.Ethernet.{destination_of, payload_of}
use Rattle.pl_node.specs.declared.acts.Act.{Act}
use Rattle.pl_node.specs.declared.acts.Act.TheVariants.{Drop}
use Rattle.pl_journal.specs.declared.cause.Cause.TheVariants.{NotPlaced}
use Rattle.pl_layouts.specs.declared.control.Control.{Control}
use Rattle.pl_layouts.specs.declared.control.Control.TheVariants as control
use Rattle.pl_layouts.specs.declared.control.ControlError.{ControlError}
use Rattle.pl_switch_rule.specs.Announcing.{ticks}
use Rattle.pl_layouts.specs.Control.{control_in, is_control}
use Rattle.pl_switch_rule.specs.Delivering.{arrives_home, destination}
use Rattle.pl_layouts.specs.Flow.{flow_hash}
use Rattle.pl_switch_rule.specs.Forwarding.{Choice, came_by, forwards}
use Rattle.pl_switch_rule.specs.Granting.{is_local}
use Rattle.pl_switch_rule.specs.GroupForwarding.{forwards_group}
use Rattle.pl_switch_rule.specs.Intake.{comes_from_host}
use Rattle.pl_switch_rule.specs.Levels.{changes_to, hears_message}
use Rattle.pl_layouts.specs.Memberships.{is_group}
use Rattle.pl_switch_rule.specs.Messages.{hears_manager}
use Rattle.pl_node.specs.PortRecords.{is_open_to_hosts, place_at, port_of}
use Rattle.pl_layouts.specs.Placement.{is_placed}
use Rattle.pl_switch_rule.specs.Positions.{after_vote, hears_proposal}
use Rattle.pl_steps.specs.Steps.{SwitchStep, does, rests}
use Rattle.pl_node.specs.SwitchViews.{SwitchView}
use Rattle.pl_node.specs.SwitchInputs.{SwitchInput, SwitchRule}
use Rattle.pl_node.specs.SwitchInputs.SwitchInput.{Comes, Tick, Says}

abbrev pub hears_control : SwitchView → ℕ → Result Control ControlError → SwitchStep
hears_control v port (Err e) = rests v
hears_control v port (Ok (control.Ldm id m)) = hears_message v port id m
hears_control v port (Ok (control.Proposal id p)) = hears_proposal v port id p
hears_control v port (Ok (control.Vote id vote)) = changes_to v (after_vote v port vote)

-- A control frame that cannot be read, or that comes from a host, is ignored.
abbrev pub control_comes : SwitchView → ℕ → List ℕ → SwitchStep
control_comes v port frame = if (port_of v port).host then rests v else hears_control v port (control_in (payload_of frame))

-- A frame of a neighbour is passed on by a switch that is placed and knows the neighbour's level.
abbrev pub comes_from_switch : Choice → SwitchView → ℕ → List ℕ → SwitchStep
comes_from_switch choose v port frame =
    if not (is_placed v.place) || is_none (place_at v port).level then does v (Drop NotPlaced ∷ [])
    else if is_group (destination_of frame) then forwards_group v (came_by v port) frame
    else if is_local v (destination frame) then arrives_home choose v frame
    else forwards choose v (came_by v port) frame

abbrev pub data_comes : Choice → SwitchView → ℕ → List ℕ → SwitchStep
data_comes choose v port frame =
    if is_open_to_hosts (port_of v port) then comes_from_host choose v port frame else comes_from_switch choose v port frame

-- The step of a switch.
abbrev pub switch_step : Choice → SwitchView → SwitchInput → SwitchStep
switch_step choose v (Comes port frame) = if is_control frame then control_comes v port frame else data_comes choose v port frame
switch_step choose v Tick = ticks v
switch_step choose v (Says says) = hears_manager choose v says

-- the old view and the input lead to the new view, with these acts
pub record StepsBy (choose : Choice) (old : SwitchView) (input : SwitchInput) (new : SwitchView) (acts : List Act) : Type 0 where
  pub view : new ≡ (switch_step choose old input).view
  pub done : acts ≡ (switch_step choose old input).acts

-- some candidate is chosen where there is one
pub record IsChoice (choose : Choice) : Type 0 where
  pub empty : (frame : List ℕ) → choose [] frame ≡ None
  pub chosen : (port : ℕ) (ports frame : List ℕ) → (n : ℕ) × (choose (port ∷ ports) frame ≡ Some n) × IsAmong (port ∷ ports) n

-- A switch may choose any of the candidates.
pub record Loose (old : SwitchView) (input : SwitchInput) (new : SwitchView) (acts : List Act) : Type 0 where
  pub choose : Choice
  pub is_choice : IsChoice choose
  pub steps : StepsBy choose old input new acts

-- the frames of a flow take one way: candidate number `hash modulo count`
abbrev pub by_flow : Choice
by_flow ports frame = slice_get ports (flow_hash frame % length ports)

-- A switch chooses by the flow.
abbrev pub Exact : SwitchRule
Exact = StepsBy by_flow
