use Rattle.std.proofs.Common.{OnOk, if◌then◌else◌, sym, subst, ◌∙◌}
use Rattle.pl_node.specs.SwitchViews.{SwitchView}
use Rattle.pl_delivery.proofs.invalidation.probe.Goals as goal
use Rattle.pl_steps.specs.Steps.{rests}
use Rattle.pl_steps.specs.Taken.{IsTaken}
use Rattle.pl_switch_rule.specs.Messages.{probes_at}

pub returns-in-Some : goal.returns-in-Some
returns-in-Some c = let grant = c.args.grant.now in
    subst (λ b. OnOk c.send_probe.result ((v : SwitchView) → IsTaken (if b then probes_at c.args.old grant.amac grant.ip v else rests v) v c.args.out.now c.send_probe.new.out)) (sym c.if-is_in_use.true ∙ c.is_in_use.ensures)
    (subst (λ ip. OnOk c.send_probe.result ((v : SwitchView) → IsTaken (probes_at c.args.old grant.amac ip v) v c.args.out.now c.send_probe.new.out)) (sym c.in-Some.is) c.send_probe.ensures)
