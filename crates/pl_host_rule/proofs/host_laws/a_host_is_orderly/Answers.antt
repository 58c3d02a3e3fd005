use Rattle.pl_host_rule.proofs.HostOrder.{boot_is_orderly, stays_orderly}
use Rattle.pl_host_rule.proofs.host_laws.a_host_is_orderly.Goals as goal

pub returns-clause-boots : goal.returns-clause-boots
returns-clause-boots c = boot_is_orderly

pub returns-clause-stays : goal.returns-clause-stays
returns-clause-stays c = stays_orderly
