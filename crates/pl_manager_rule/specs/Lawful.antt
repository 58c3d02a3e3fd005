-- A rule that is just the one of the fabric manager.
use Rattle.std.specs.Prelude.{◌↔◌, List}
use Rattle.pl_frame.specs.declared.address.SwitchId.{SwitchId}
use Rattle.pl_node.specs.declared.acts.ManagerAct.{ManagerAct}
use Rattle.pl_node.specs.declared.messages.ToManager.{ToManager}
use Rattle.pl_node.specs.ManagerDuties.{ManagerRule}
use Rattle.pl_node.specs.ManagerViews.{ManagerView}
use Rattle.pl_manager_rule.specs.WholeRule.{whole_rule}

-- it allows each step of the manager, and no other
abbrev pub IsManagerRule : ManagerRule → Type 0
IsManagerRule rule = (before : ManagerView) (s : SwitchId) (says : ToManager) (after : ManagerView) (acts : List ManagerAct) →
    rule before s says after acts ↔ whole_rule before s says after acts
