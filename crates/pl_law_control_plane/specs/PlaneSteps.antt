-- What a step of the world is to the control plane.
use Rattle.std.specs.Prelude.{◌≡◌, ℕ, ◌<◌, ◌==◌, ◌⊎◌, Bool, true, false, if◌then◌else◌, List, [], ◌∷◌, ◌++◌, Option, Some, None, slice_get}
use Rattle.std.specs.List.{flat_map, position}
use Rattle.pl_frame.specs.declared.address.SwitchId.{SwitchId}
use Rattle.pl_layouts.specs.declared.control.Control.{Control}
use Rattle.pl_layouts.specs.Control.{is_control}
use Rattle.pl_layouts.specs.Equality.{same_switch}
use Rattle.pl_wiring.specs.declared.link.Peer.TheVariants.{HostPort}
use Rattle.pl_wiring.specs.Labels.{edge_count, switch_count}
use Rattle.pl_wiring.specs.Peers.{peer_of}
use Rattle.pl_wiring.specs.Plan.{Plan}
use Rattle.pl_node.specs.declared.acts.Act.{Act}
use Rattle.pl_node.specs.declared.acts.ManagerAct.{ManagerAct}
use Rattle.pl_node.specs.declared.acts.ManagerAct.TheVariants.{Number, Say}
use Rattle.pl_node.specs.declared.messages.ToManager.{ToManager}
use Rattle.pl_node.specs.declared.messages.ToSwitch.{ToSwitch}
use Rattle.pl_node.specs.Accounting.{IsAccounted, IsShaped}
use Rattle.pl_node.specs.ManagerDuties.{ManagerRule}
use Rattle.pl_node.specs.ManagerViews.{ManagerView}
use Rattle.pl_node.specs.SwitchInputs.{SwitchInput, SwitchRule}
use Rattle.pl_node.specs.SwitchInputs.SwitchInput.{Comes, Says, Tick}
use Rattle.pl_node.specs.SwitchViews.{SwitchView}
use Rattle.pl_law_control_plane.specs.ControlPlanes.{AreAdjacent, ControlPlane, message_in, messages_of, passes, sends, tells, unless}

-- the first items of a queue are gone
pub record LeftOver {T : Type 0} (before after : List T) : Type 0 where
  pub gone : List T
  pub split : before ≡ gone ++ after

-- Items left the fronts of some queues, and nothing else changed.
pub record IsLeft (f g : ControlPlane) : Type 0 where
  pub plan : g.plan ≡ f.plan
  pub view : (s : ℕ) → g.view s ≡ f.view s
  pub says : (s port : ℕ) → LeftOver (f.says s port) (g.says s port)
  pub carries : (s port : ℕ) → g.carries s port ≡ true → f.carries s port ≡ true
  pub reports : (s : ℕ) → LeftOver (f.reports s) (g.reports s)
  pub orders : (s : ℕ) → LeftOver (f.orders s) (g.orders s)
  pub manager : g.manager ≡ f.manager

-- Switch s has this view then, and its acts are done; what it sends over a failed link is lost.
pub record IsActed (f : ControlPlane) (s : ℕ) (after : SwitchView) (failed : ℕ → Bool) (acts : List Act) (g : ControlPlane) : Type 0 where
  pub plan : g.plan ≡ f.plan
  pub here : g.view s ≡ after
  pub others : (t : ℕ) → (t ≡ s → ⊥) → g.view t ≡ f.view t
  pub says : (port : ℕ) → g.says s port ≡ f.says s port ++ unless (failed port) (sends port acts)
  pub other_says : (t port : ℕ) → (t ≡ s → ⊥) → g.says t port ≡ f.says t port
  pub carries : (port : ℕ) → g.carries s port ≡ true → (f.carries s port ≡ true) ⊎ (passes port acts ≡ true)
  pub other_carries : (t port : ℕ) → (t ≡ s → ⊥) → g.carries t port ≡ f.carries t port
  pub reports : g.reports s ≡ f.reports s ++ tells acts
  pub other_reports : (t : ℕ) → (t ≡ s → ⊥) → g.reports t ≡ f.reports t
  pub orders : (t : ℕ) → g.orders t ≡ f.orders t
  pub manager : g.manager ≡ f.manager

-- a switch that is there steps by its rule on what comes, and accounts for it
pub record SwitchTurns (rule : SwitchRule) (f : ControlPlane) (s : ℕ) (input : SwitchInput) (g : ControlPlane) : Type 0 where
  pub after : SwitchView
  pub acts : List Act
  pub failed : ℕ → Bool
  pub there : s < switch_count f.plan.k
  pub shaped : IsShaped (f.view s)
  pub size : (f.view s).k ≡ f.plan.k
  pub ruled : rule (f.view s) input after acts
  pub accounted : IsAccounted (f.view s) input after acts
  pub acted : IsActed f s after failed acts g

-- What the manager's acts say to a switch.
abbrev pub is_to : Option ℕ → ℕ → Bool
is_to None s = false
is_to (Some t) s = t == s

abbrev pub ordered_by : Plan → ℕ → ManagerAct → List ToSwitch
ordered_by plan s (Say to says) = if is_to (position (same_switch to) plan.ids) s then says ∷ [] else []
ordered_by plan s (Number pmac n) = []

abbrev pub ordered : Plan → ℕ → List ManagerAct → List ToSwitch
ordered plan s acts = flat_map (ordered_by plan s) acts

-- the manager steps by its rule on what a switch of this id told it
pub record ManagerTurns (rule : ManagerRule) (f : ControlPlane) (id : SwitchId) (told : ToManager) (g : ControlPlane) : Type 0 where
  pub after : ManagerView
  pub acts : List ManagerAct
  pub ruled : rule f.manager id told after acts
  pub plan : g.plan ≡ f.plan
  pub view : (s : ℕ) → g.view s ≡ f.view s
  pub says : (s port : ℕ) → g.says s port ≡ f.says s port
  pub carries : (s port : ℕ) → g.carries s port ≡ f.carries s port
  pub reports : (s : ℕ) → g.reports s ≡ f.reports s
  pub orders : (s : ℕ) → g.orders s ≡ f.orders s ++ ordered f.plan s acts
  pub manager : g.manager ≡ after

-- The first message out of a port is taken, if there is one in the first item, and no other message.
pub record MessageIsTaken (f : ControlPlane) (t q : ℕ) (first : List Control) (g : ControlPlane) : Type 0 where
  pub left : IsLeft f g
  pub first_said : f.says t q ≡ first ++ g.says t q
  pub other_says : (s port : ℕ) → ((s ≡ t) × (port ≡ q) → ⊥) → g.says s port ≡ f.says s port
  pub reports : (s : ℕ) → g.reports s ≡ f.reports s
  pub orders : (s : ℕ) → g.orders s ≡ f.orders s

-- the first order to a switch is taken, and nothing else
pub record IsOrderTaken (f : ControlPlane) (s : ℕ) (says : ToSwitch) (g : ControlPlane) : Type 0 where
  pub left : IsLeft f g
  pub first : f.orders s ≡ says ∷ g.orders s
  pub others : (t : ℕ) → (t ≡ s → ⊥) → g.orders t ≡ f.orders t
  pub messages : (t port : ℕ) → g.says t port ≡ f.says t port
  pub reports : (t : ℕ) → g.reports t ≡ f.reports t

-- the first report of a switch is taken, and nothing else
pub record IsReportTaken (f : ControlPlane) (s : ℕ) (told : ToManager) (g : ControlPlane) : Type 0 where
  pub left : IsLeft f g
  pub first : f.reports s ≡ told ∷ g.reports s
  pub others : (t : ℕ) → (t ≡ s → ⊥) → g.reports t ≡ f.reports t
  pub messages : (t port : ℕ) → g.says t port ≡ f.says t port
  pub orders : (t : ℕ) → g.orders t ≡ f.orders t

-- What a step of the world is: items leave queues, or a switch ticks, hears a control frame over a link, gets a data frame over a link, gets a
-- frame of a host, or hears the manager, or the manager hears a switch.
pub data PlaneStep (switch : SwitchRule) (manager : ManagerRule) (f g : ControlPlane) : Type 0 where
  Left : IsLeft f g → PlaneStep switch manager f g
  Ticked : (s : ℕ) → SwitchTurns switch f s Tick g → PlaneStep switch manager f g
  Heard : (t q s port : ℕ) (frame : List ℕ) (mid : ControlPlane) → AreAdjacent f.plan t q s port → is_control frame ≡ true →
      MessageIsTaken f t q (messages_of (message_in frame)) mid → SwitchTurns switch mid s (Comes port frame) g → PlaneStep switch manager f g
  Carried : (t q s port : ℕ) (frame : List ℕ) (mid : ControlPlane) → AreAdjacent f.plan t q s port → is_control frame ≡ false → f.carries t q ≡ true →
      MessageIsTaken f t q [] mid → SwitchTurns switch mid s (Comes port frame) g → PlaneStep switch manager f g
  Entered : (s port : ℕ) (frame : List ℕ) → s < edge_count f.plan.k → port < f.plan.k → peer_of f.plan s port ≡ HostPort → is_control frame ≡ false →
      SwitchTurns switch f s (Comes port frame) g → PlaneStep switch manager f g
  Ordered : (s : ℕ) (says : ToSwitch) (mid : ControlPlane) → IsOrderTaken f s says mid → SwitchTurns switch mid s (Says says) g →
      PlaneStep switch manager f g
  Managed : (s : ℕ) (id : SwitchId) (told : ToManager) (mid : ControlPlane) → s < switch_count f.plan.k → slice_get f.plan.ids s ≡ Some id →
      IsReportTaken f s told mid → ManagerTurns manager mid id told g → PlaneStep switch manager f g

-- no report and no order left its queue
pub record AreAsBefore (f g : ControlPlane) : Type 0 where
  pub reports : (s : ℕ) → g.reports s ≡ f.reports s
  pub orders : (s : ℕ) → g.orders s ≡ f.orders s

-- where items leave queues, none of what waits between the switches and the manager is among them
abbrev pub LosesNoWord : (switch : SwitchRule) (manager : ManagerRule) (f g : ControlPlane) → PlaneStep switch manager f g → Type 0
LosesNoWord switch manager f g (Left left) = AreAsBefore f g
LosesNoWord switch manager f g step = Unit {0}

-- a step in which no word is lost
abbrev pub WholeStep : (switch : SwitchRule) (manager : ManagerRule) (f g : ControlPlane) → Type 0
WholeStep switch manager f g = (step : PlaneStep switch manager f g) × LosesNoWord switch manager f g step

-- Data frames come in so: this holds of each that a host sends, and that of each that comes over a link, by the view of the switch and the port.
abbrev pub ComeSo : (SwitchView → ℕ → List ℕ → Type 0) → (SwitchView → ℕ → List ℕ → Type 0) → (switch : SwitchRule) (manager : ManagerRule) (f g : ControlPlane) →
    PlaneStep switch manager f g → Type 0
ComeSo host link switch manager f g (Carried t q s port frame mid adjacent bears carries taken turns) = link (f.view s) port frame
ComeSo host link switch manager f g (Entered s port frame edge within free bears turns) = host (f.view s) port frame
ComeSo host link switch manager f g step = Unit {0}
