use Rattle.std.proofs.Common.{ap, ◌∙◌}
use Rattle.std.specs.List.{list_any}
use Rattle.pl_switch_rule.specs.Levels.{is_of_other_pod}
use Rattle.pl_ports.proofs.LevelsShown.{by_first_pod}
use Rattle.pl_ports.proofs.evidence.hears_two_pods.Goals as goal

pub returns : goal.returns
returns c =
    c.hears_other_pod.ensures ∙ ap (λ pod. list_any (is_of_other_pod pod) c.args.records.now) c.pod_told_before.ensures
    ∙ by_first_pod c.args.records.now
