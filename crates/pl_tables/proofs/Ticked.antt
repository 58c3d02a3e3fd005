-- A tick whose step was taken, also where the tables of prefixes were kept up behind it.
use Rattle.std.proofs.Common.{◌≡◌, List, Result, Ok, Err, IsOk, OnOk, refl, ◌∙◌}
use Rattle.pl_node.specs.declared.acts.Act.{Act}
use Rattle.pl_node.specs.Gains.{Gains}
use Rattle.pl_node.specs.SwitchInputs.{Tick}
use Rattle.pl_node.specs.SwitchViews.{SwitchView}
use Rattle.pl_steps.specs.Taken.{IsTaken}
use Rattle.pl_switch_rule.specs.Announcing.{ticks}
use Rattle.pl_switch_rule.specs.SwitchRule.{Exact}

pub ticked : {T E : Type 0} (done kept : Result T E) (old between new : SwitchView) (before after : List Act) →
    OnOk done (IsTaken (ticks old) between before after) → OnOk kept (IsOk done) → OnOk kept (new ≡ between) → OnOk kept (Gains before after (Exact old Tick new))
ticked (Ok x) (Ok y) old between new before after taken _ same =
    record { items = (ticks old).acts; gained = taken.acts; holds = record { view = same ∙ taken.view; done = refl } }
ticked (Err x) (Ok y) old between new before after taken ok same = absurd (let e = ok in cc)
ticked done (Err y) old between new before after taken ok same = tt
