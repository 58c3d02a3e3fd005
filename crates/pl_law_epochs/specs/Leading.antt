-- Where traps lead: to addresses that are somebody's.
use Rattle.std.specs.Prelude.{◌≡◌, ℕ, Bool, false, List, Some, slice_get}
use Rattle.std.specs.List.{AllByRecursion, list_any}
use Rattle.pl_frame.specs.declared.address.Mac.{Mac}
use Rattle.pl_frame.specs.declared.address.SwitchId.{SwitchId}
use Rattle.pl_pmac.specs.declared.pmac.Pmac.{Pmac}
use Rattle.pl_layouts.specs.Equality.{same_pmac}
use Rattle.pl_wiring.specs.Plan.{Plan}
use Rattle.pl_node.specs.AddressUses.{standing_trap}
use Rattle.pl_node.specs.declared.messages.ToManager.{ToManager}
use Rattle.pl_node.specs.declared.messages.ToManager.TheVariants as tell
use Rattle.pl_node.specs.declared.messages.ToSwitch.{ToSwitch}
use Rattle.pl_node.specs.declared.messages.ToSwitch.TheVariants as say
use Rattle.pl_node.specs.declared.switch_records.Grant.{Grant}
use Rattle.pl_node.specs.declared.trap.Trap.{Trap}
use Rattle.pl_node.specs.SwitchInputs.{SwitchRule}
use Rattle.pl_node.specs.SwitchViews.{SwitchView}
use Rattle.pl_switch_rule.specs.Granting.{granted}
use Rattle.pl_law_control_plane.specs.ControlPlanes.{ControlPlane}
use Rattle.pl_law_due.specs.Due.{is_silent}
use Rattle.pl_law_due.specs.DueSteps.{DueReleasesWhere, DueStep}
use Rattle.pl_law_addresses.specs.EdgeAddresses.{IsHeldFor}

abbrev pub is_release_of : Pmac → ToSwitch → Bool
is_release_of y (say.Release x) = same_pmac x y
is_release_of y says = false

-- some switch of the wiring has granted it to this host, and it is not free
pub record IsLive (plan : Plan) (view : ℕ → SwitchView) (y : Pmac) (mac : Mac) : Type 0 where
  pub switch : ℕ
  pub id : SwitchId
  pub named : slice_get plan.ids switch ≡ Some id
  pub held : IsHeldFor (λ z. granted (view switch) z) y mac

-- and no order waits that it be freed
pub record LeadsOn (plan : Plan) (view : ℕ → SwitchView) (orders : ℕ → List ToSwitch) (y : Pmac) (mac : Mac) : Type 0 where
  pub live : IsLive plan view y mac
  pub unreleased : (t : ℕ) (i : SwitchId) → slice_get plan.ids t ≡ Some i → list_any (is_release_of y) (orders t) ≡ false

-- each trap that stands leads to such an address of the same host, at switches that have not heard of the epoch too
abbrev pub TrapsLeadOn : Plan → (ℕ → SwitchView) → (ℕ → List ToSwitch) → Type 0
TrapsLeadOn plan view orders = (s : ℕ) (id : SwitchId) → slice_get plan.ids s ≡ Some id → (x : Pmac) (g : Grant) (trap : Trap) → granted (view s) x ≡ Some g →
    standing_trap g.held ≡ Some trap → LeadsOn plan view orders trap.new g.amac

abbrev pub TrapsLead : ControlPlane → Type 0
TrapsLead f = TrapsLeadOn f.plan f.view f.orders

-- each switch has heard of the epoch, and the manager of each trap that stands at it
abbrev pub IsNoTrap : ToManager → Type 0
IsNoTrap (tell.Trapped old new number) = ⊥
IsNoTrap says = Unit {0}

pub record IsHeardOut (f : ControlPlane) : Type 0 where
  pub loud : (s : ℕ) (id : SwitchId) → slice_get f.plan.ids s ≡ Some id → is_silent f.orders s ≡ false
  pub told : (s : ℕ) (id : SwitchId) → slice_get f.plan.ids s ≡ Some id → AllByRecursion IsNoTrap (f.reports s)

-- the manager releases addresses only then
abbrev pub ReleasesHeardOut : (switch : SwitchRule) (f g : ControlPlane) → DueStep switch f g → Type 0
ReleasesHeardOut switch f g step = DueReleasesWhere (λ x. IsHeardOut x) switch f g step
