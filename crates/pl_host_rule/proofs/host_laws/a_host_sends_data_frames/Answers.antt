use Rattle.pl_host_rule.proofs.HostSends.{boot_holds, owes_sends}
use Rattle.pl_host_rule.proofs.host_laws.a_host_sends_data_frames.Goals as goal

pub returns-clause-boots : goal.returns-clause-boots
returns-clause-boots c = boot_holds

pub returns-clause-sends : goal.returns-clause-sends
returns-clause-sends c = owes_sends
