use Rattle.pl_host_rule.proofs.HostOwn.{keeps_frames}
use Rattle.pl_host_rule.proofs.host_laws.a_host_keeps_what_goes_to_no_routed_group.Goals as goal

pub returns : goal.returns
returns c = keeps_frames
