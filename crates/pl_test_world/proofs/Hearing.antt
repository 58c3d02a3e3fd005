-- A manager that hears one more word of a switch of the wiring.
use Rattle.std.proofs.Common.{◌≡◌, ◌+◌, ℕ, List, Some, slice_get, Result, Ok, Err, OnOk}
use Rattle.pl_frame.specs.declared.address.SwitchId.{SwitchId}
use Rattle.pl_wiring.specs.Plan.{Plan}
use Rattle.pl_node.specs.declared.acts.ManagerAct.{ManagerAct}
use Rattle.pl_node.specs.declared.messages.ToManager.{ToManager}
use Rattle.pl_node.specs.Gains.{Gains}
use Rattle.pl_node.specs.ManagerDuties.{AnswersDuly, ManagerRule}
use Rattle.pl_node.specs.ManagerViews.{ManagerView}
use Rattle.pl_world.specs.Hearing.{HeardWithin}
use Rattle.pl_world.proofs.Exports.{heard_one_more}

pub heard_then : {T E : Type 0} (result : Result T E) (rule : ManagerRule) (duly : AnswersDuly rule) (plan : Plan) (before after : ManagerView) (heard s : ℕ) (id : SwitchId)
    (says : ToManager) (out out_after : List ManagerAct) → slice_get plan.ids s ≡ Some id → HeardWithin plan before heard →
    OnOk result (Gains out out_after (rule before id says after)) → OnOk result (HeardWithin plan after (heard + 1))
heard_then (Ok x) rule duly plan before after heard s id says out out_after found within gains =
    heard_one_more plan before after heard s id found (duly.grows before id says after gains.items gains.holds) within
heard_then (Err e) rule duly plan before after heard s id says out out_after found within gains = tt
