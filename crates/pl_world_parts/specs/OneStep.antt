-- One of the switches, or of the hosts, takes a step by its rule.
use Rattle.std.specs.Prelude.{◌≡◌, ℕ, List, map, Some, slice_get, slice_set}
use Rattle.pl_node.specs.declared.acts.Act.{Act}
use Rattle.pl_node.specs.declared.acts.HostAct.{HostAct}
use Rattle.pl_layouts.specs.declared.place.Place.{Place}
use Rattle.pl_node.specs.HostInputs.{HostAnswer, HostInput, HostRule}
use Rattle.pl_node.specs.HostViews.{HostView}
use Rattle.pl_node.specs.SwitchInputs.{SwitchInput, SwitchRule}
use Rattle.pl_node.specs.SwitchInputs.SwitchInput.{Comes, Says, Tick}
use Rattle.pl_node.specs.HostInputs.HostInput.{HasMoved, Joins, Leaves, Retries, Starts}
use Rattle.pl_node.specs.SwitchViews.{SwitchView}
use Rattle.pl_world_parts.specs.declared.incoming.Incoming.{Incoming}
use Rattle.pl_world_parts.specs.declared.incoming.Incoming.TheVariants as incoming
use Rattle.pl_world_parts.specs.declared.incoming.Incoming.TheVariants.{Frame, Message}
use Rattle.pl_world_parts.specs.declared.host_call.HostCall.{HostCall}
use Rattle.pl_world_parts.specs.declared.host_call.HostCall.TheVariants.{Join, Leave, Moved, Retry, Start}

-- with its place before and after
pub record SwitchSteps (rule : SwitchRule) (old : List SwitchView) (s : ℕ) (input : SwitchInput) (new : List SwitchView) (was is : Place)
    (acts : List Act) : Type 0 where
  pub before : SwitchView
  pub after : SwitchView
  pub found : slice_get old s ≡ Some before
  pub ruled : rule before input after acts
  pub changed : new ≡ slice_set old s after
  pub was_placed : was ≡ before.place
  pub is_placed : is ≡ after.place

pub record HostSteps (rule : HostRule) (old : List HostView) (h : ℕ) (input : HostInput) (answer : HostAnswer) (new : List HostView)
    (acts : List HostAct) : Type 0 where
  pub before : HostView
  pub after : HostView
  pub found : slice_get old h ≡ Some before
  pub ruled : rule before input after acts answer
  pub changed : new ≡ slice_set old h after

-- one of them has another view
abbrev pub IsOneChanged : List SwitchView → ℕ → List SwitchView → Type 0
IsOneChanged old s new = (after : SwitchView) × (new ≡ slice_set old s after)

-- how many ports each switch has
abbrev pub sizes : List SwitchView → List ℕ
sizes = map (λ v. v.k)

-- what a host hears of it
abbrev pub input_of : HostCall → HostInput
input_of Start = Starts
input_of Retry = Retries
input_of Moved = HasMoved
input_of (Join group) = Joins group
input_of (Leave group) = Leaves group

-- what a switch hears, as its rule has it
abbrev pub input_from : Incoming → SwitchInput
input_from (Frame port frame) = Comes port frame.now
input_from incoming.Tick = Tick
input_from (Message says) = Says says.now
