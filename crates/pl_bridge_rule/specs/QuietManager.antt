-- What a fabric manager does that says nothing.
use Rattle.std.specs.Prelude.{◌≡◌, List, []}
use Rattle.pl_frame.specs.declared.address.SwitchId.{SwitchId}
use Rattle.pl_node.specs.declared.acts.ManagerAct.{ManagerAct}
use Rattle.pl_node.specs.declared.messages.ToManager.{ToManager}
use Rattle.pl_node.specs.ManagerViews.{ManagerView}

pub record IsQuiet (old : ManagerView) (s : SwitchId) (says : ToManager) (new : ManagerView) (acts : List ManagerAct) : Type 0 where
  pub same : new ≡ old
  pub none : acts ≡ []
