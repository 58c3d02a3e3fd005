-- The manager begins anew, and what else a step of the world is to the control plane.
use Rattle.std.specs.Prelude.{◌≡◌, ◌<◌, ◌+◌, ℕ, true, List, [], ◌∷◌}
use Rattle.pl_wiring.specs.Labels.{switch_count}
use Rattle.pl_node.specs.declared.messages.ToSwitch.TheVariants.{Hello}
use Rattle.pl_node.specs.ManagerDuties.{ManagerRule}
use Rattle.pl_node.specs.ManagerViews.{restarted_manager}
use Rattle.pl_node.specs.SwitchInputs.{SwitchRule}
use Rattle.pl_node.specs.SwitchViews.{SwitchView}
use Rattle.pl_law_control_plane.specs.ControlPlanes.{ControlPlane}
use Rattle.pl_law_control_plane.specs.PlaneSteps.{ComeSo, WholeStep}

-- The switches know the same then, and the same waits between them.
pub record IsAlike (f g : ControlPlane) : Type 0 where
  pub plan : g.plan ≡ f.plan
  pub view : (s : ℕ) → g.view s ≡ f.view s
  pub says : (s port : ℕ) → g.says s port ≡ f.says s port
  pub carries : (s port : ℕ) → g.carries s port ≡ true → f.carries s port ≡ true

-- The manager of switches with k ports begins anew: it knows nothing, all that waited between it and the switches is gone, and each switch is told.
pub record RestartsWith (k : ℕ) (f g : ControlPlane) : Type 0 where
  pub alike : IsAlike f g
  pub reports : (s : ℕ) → g.reports s ≡ []
  pub orders : (s : ℕ) → s < switch_count f.plan.k → g.orders s ≡ Hello (f.manager.epoch + 1) ∷ []
  pub beyond : (s : ℕ) → (s < switch_count f.plan.k → ⊥) → g.orders s ≡ []
  pub manager : g.manager ≡ restarted_manager k (f.manager.epoch + 1)

-- one of the fabric's own switches
abbrev pub Restarts : (f g : ControlPlane) → Type 0
Restarts f g = RestartsWith f.plan.k f g

-- A step of the world is one in which no word is lost, or the manager begins anew.
pub data OnPlane (switch : SwitchRule) (manager : ManagerRule) (f g : ControlPlane) : Type 0 where
  Steps : WholeStep switch manager f g → OnPlane switch manager f g
  BeginsAnew : RestartsWith f.manager.k f g → OnPlane switch manager f g

-- data frames come in so, where a switch steps
abbrev pub ComeSoOn : (SwitchView → ℕ → List ℕ → Type 0) → (SwitchView → ℕ → List ℕ → Type 0) → (switch : SwitchRule) (manager : ManagerRule) (f g : ControlPlane) →
    OnPlane switch manager f g → Type 0
ComeSoOn host link switch manager f g (Steps step) = ComeSo host link switch manager f g step.0
ComeSoOn host link switch manager f g (BeginsAnew anew) = Unit {0}
