use Rattle.pl_host_rule.proofs.HostSends.{joins_by_sending}
use Rattle.pl_host_rule.proofs.host_laws.a_host_has_joined_what_its_frames_say.Goals as goal

pub returns : goal.returns
returns c = joins_by_sending
