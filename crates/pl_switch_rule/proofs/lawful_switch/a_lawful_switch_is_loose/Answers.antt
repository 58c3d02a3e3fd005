use Rattle.pl_switch_rule.proofs.AccountedSteps.{exact_is_loose}
use Rattle.pl_switch_rule.proofs.lawful_switch.a_lawful_switch_is_loose.Goals as goal

pub returns : goal.returns
returns g c = λ old input new acts steps. exact_is_loose old input new acts (g.met.S.LawfulSwitch.lawful.0 old input new acts steps)
