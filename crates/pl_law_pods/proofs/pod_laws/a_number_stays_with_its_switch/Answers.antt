use Rattle.pl_manager_rule.proofs.Exports.{number_stays}
use Rattle.pl_law_pods.proofs.pod_laws.a_number_stays_with_its_switch.Goals as goal

pub returns : goal.returns
returns c = number_stays
