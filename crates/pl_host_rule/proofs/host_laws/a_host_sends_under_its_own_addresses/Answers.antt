use Rattle.pl_host_rule.proofs.HostOwn.{boot_holds_own, sends_own}
use Rattle.pl_host_rule.proofs.host_laws.a_host_sends_under_its_own_addresses.Goals as goal

pub returns-clause-boots : goal.returns-clause-boots
returns-clause-boots c = boot_holds_own

pub returns-clause-sends : goal.returns-clause-sends
returns-clause-sends c = sends_own
