use Rattle.std.proofs.Common.{ap, ◌∙◌}
use Rattle.pl_switch_rule.specs.Levels.{learns_pod}
use Rattle.pl_ports.proofs.ports.Ports.learn.Goals as goal

pub returns : goal.returns
returns c = λ v. c.learn_pod.ensures v ∙ ap (λ w. learns_pod w c.args.told) (c.learn_level.ensures v)
