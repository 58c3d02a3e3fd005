-- What a step of the control plane is to what is due: it is one or more steps of the control plane again, in which the manager hears what it treats.
use Rattle.std.specs.Prelude.{◌≡◌, ◌⊎◌, ℕ, ◌<◌, if◌then◌else◌, not, true, List, [], ◌∷◌, ◌++◌, Some, slice_get}
use Rattle.std.specs.List.{filter}
use Rattle.pl_frame.specs.declared.address.SwitchId.{SwitchId}
use Rattle.pl_pmac.specs.declared.pmac.Pmac.{Pmac}
use Rattle.pl_wiring.specs.Labels.{switch_count}
use Rattle.pl_node.specs.declared.acts.ManagerAct.{ManagerAct}
use Rattle.pl_node.specs.declared.messages.ToManager.{ToManager}
use Rattle.pl_node.specs.ManagerDuties.{ManagerRule}
use Rattle.pl_node.specs.ManagerViews.{ManagerView}
use Rattle.pl_node.specs.SwitchInputs.{SwitchRule}
use Rattle.pl_node.specs.SwitchViews.{SwitchView}
use Rattle.pl_gathering.specs.Acting.{Done}
use Rattle.pl_gathering.specs.Gathering.{is_whole}
use Rattle.pl_manager_rule.specs.Treating.{Treating, at_rest, follows, treats, waits_for_places}
use Rattle.pl_manager_rule.specs.WholeRule.{gathered}
use Rattle.pl_law_control_plane.specs.ControlPlanes.{ControlPlane}
use Rattle.pl_law_control_plane.specs.PlaneSteps.{ComeSo, IsReportTaken, ManagerTurns, WholeStep, ordered}
use Rattle.pl_law_control_plane.specs.Restarts.{IsAlike, Restarts}
use Rattle.pl_law_due.specs.Due.{is_silent, words_of}

-- the rule of the manager for one word that it treats
abbrev pub treats_one : ManagerRule
treats_one before s says after acts =
    let done = treats (at_rest before) (record { switch = s; word = says }) in (after ≡ done.known.view) × (acts ≡ done.acts)

-- what follows from the words that were treated: addresses that were told to have aged are released
abbrev pub released : ManagerView → List Pmac → Done Treating ManagerAct
released manager aged = follows (record { view = manager; aged = aged })

pub record Releases (f : ControlPlane) (aged : List Pmac) (g : ControlPlane) : Type 0 where
  pub alike : IsAlike f g
  pub reports : (s : ℕ) → g.reports s ≡ f.reports s
  pub orders : (s : ℕ) → g.orders s ≡ f.orders s ++ ordered f.plan s (released f.manager aged).acts
  pub manager : g.manager ≡ (released f.manager aged).known.view

-- of the first words, wishes for pods stand behind the others then
pub record IsTurned (before after : List ToManager) : Type 0 where
  pub first : List ToManager
  pub others : List ToManager
  pub was : before ≡ first ++ others
  pub now : after ≡ (filter (λ word. not (waits_for_places word)) first ++ filter waits_for_places first) ++ others

pub record Turns (f g : ControlPlane) : Type 0 where
  pub alike : IsAlike f g
  pub reports : (s : ℕ) → IsTurned (f.reports s) (g.reports s)
  pub orders : (s : ℕ) → g.orders s ≡ f.orders s
  pub manager : g.manager ≡ f.manager

-- What the manager does: it treats a word, wishes are put off until all else is treated, or addresses are released.
pub data ManagerPart (f g : ControlPlane) : Type 0 where
  Treated : (s : ℕ) (id : SwitchId) (told : ToManager) (mid : ControlPlane) → s < switch_count f.plan.k → slice_get f.plan.ids s ≡ Some id →
      IsReportTaken f s told mid → ManagerTurns treats_one mid id told g → ManagerPart f g
  Turned : Turns f g → ManagerPart f g
  Released : (aged : List Pmac) → Releases f aged g → ManagerPart f g

-- one part after the other, by way of these
abbrev pub Parts : List ControlPlane → ControlPlane → ControlPlane → Type 0
Parts [] f g = ManagerPart f g
Parts (mid ∷ mids) f g = ManagerPart f mid × Parts mids mid g

-- of what was told, `Begin` and `End` are no words, and a silent switch is not heard
pub record IsSifted (f g : ControlPlane) : Type 0 where
  pub alike : IsAlike f g
  pub reports : (s : ℕ) → g.reports s ≡ (if is_silent f.orders s then [] else words_of (f.reports s))
  pub orders : (s : ℕ) → g.orders s ≡ f.orders s
  pub manager : g.manager ≡ f.manager

-- A step to what is due: a step as before, in which the manager treats a word at once, and what is told is sifted; or what the manager does, part by
-- part.
pub data DueStep (switch : SwitchRule) (f g : ControlPlane) : Type 0 where
  Stepped : (told : ControlPlane) → WholeStep switch treats_one f told → IsSifted told g → DueStep switch f g
  Managed : (mids : List ControlPlane) → Parts mids f g → DueStep switch f g

-- data frames come in so, where a switch steps
abbrev pub ComeSoDue : (SwitchView → ℕ → List ℕ → Type 0) → (SwitchView → ℕ → List ℕ → Type 0) → (switch : SwitchRule) (f g : ControlPlane) → DueStep switch f g → Type 0
ComeSoDue host link switch f g (Stepped told step sifted) = ComeSo host link switch treats_one f told step.0
ComeSoDue host link switch f g (Managed mids parts) = Unit {0}

-- what a step of the world is to what is due
pub data OnDue (switch : SwitchRule) (f g : ControlPlane) : Type 0 where
  Steps : DueStep switch f g → OnDue switch f g
  BeginsAnew : Restarts f g → OnDue switch f g

-- Addresses are released only where this holds.
abbrev pub ReleasesWhere : (ControlPlane → Type 0) → (f g : ControlPlane) → ManagerPart f g → Type 0
ReleasesWhere P f g (Treated s id told mid within named taken turns) = Unit {0}
ReleasesWhere P f g (Turned turns) = Unit {0}
ReleasesWhere P f g (Released aged releases) = (aged ≡ []) ⊎ P f

abbrev pub AllReleaseWhere : (ControlPlane → Type 0) → (mids : List ControlPlane) (f g : ControlPlane) → Parts mids f g → Type 0
AllReleaseWhere P [] f g part = ReleasesWhere P f g part
AllReleaseWhere P (mid ∷ mids) f g parts = ReleasesWhere P f mid parts.0 × AllReleaseWhere P mids mid g parts.1

abbrev pub DueReleasesWhere : (ControlPlane → Type 0) → (switch : SwitchRule) (f g : ControlPlane) → DueStep switch f g → Type 0
DueReleasesWhere P switch f g (Stepped told step sifted) = Unit {0}
DueReleasesWhere P switch f g (Managed mids parts) = AllReleaseWhere P mids f g parts

-- to a plane of switches and the manager the last part of what the manager does: no report is missing then, and what waits there is all that is due
pub record IsLast (g x : ControlPlane) : Type 0 where
  pub plan : x.plan ≡ g.plan
  pub whole : is_whole (gathered g.manager) ≡ true
  pub silence : (t : ℕ) → is_silent x.orders t ≡ true → is_silent g.orders t ≡ true
  pub reports : (t : ℕ) (i : SwitchId) → slice_get g.plan.ids t ≡ Some i → x.reports t ≡ words_of (g.reports t)
