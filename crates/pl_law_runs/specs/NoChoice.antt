-- Rules that leave no choice: from what is known and what comes, one step alone may follow.
use Rattle.std.specs.Prelude.{◌≡◌, List}
use Rattle.pl_frame.specs.declared.address.SwitchId.{SwitchId}
use Rattle.pl_node.specs.declared.acts.Act.{Act}
use Rattle.pl_node.specs.declared.acts.HostAct.{HostAct}
use Rattle.pl_node.specs.declared.acts.ManagerAct.{ManagerAct}
use Rattle.pl_node.specs.declared.messages.ToManager.{ToManager}
use Rattle.pl_node.specs.HostInputs.{HostAnswer, HostInput, HostRule}
use Rattle.pl_node.specs.HostViews.{HostView}
use Rattle.pl_node.specs.ManagerDuties.{ManagerRule}
use Rattle.pl_node.specs.ManagerViews.{ManagerView}
use Rattle.pl_node.specs.SwitchInputs.{SwitchInput, SwitchRule}
use Rattle.pl_node.specs.SwitchViews.{SwitchView}

-- what a switch knows then and its acts are those of every other step that it might take
abbrev pub LeavesSwitchNoChoice : SwitchRule → Type 0
LeavesSwitchNoChoice rule = (old : SwitchView) (input : SwitchInput) (one other : SwitchView) (acts more : List Act) →
    rule old input one acts → rule old input other more → (one ≡ other) × (acts ≡ more)

-- and so it is with the manager
abbrev pub LeavesManagerNoChoice : ManagerRule → Type 0
LeavesManagerNoChoice rule = (old : ManagerView) (switch : SwitchId) (told : ToManager) (one other : ManagerView) (acts more : List ManagerAct) →
    rule old switch told one acts → rule old switch told other more → (one ≡ other) × (acts ≡ more)

-- and with a host and its answer
abbrev pub LeavesHostNoChoice : HostRule → Type 0
LeavesHostNoChoice rule = (old : HostView) (input : HostInput) (one other : HostView) (acts more : List HostAct) (first second : HostAnswer) →
    rule old input one acts first → rule old input other more second → (one ≡ other) × (acts ≡ more) × (first ≡ second)
