use Rattle.pl_forward.proofs.Passing.{has_none_beyond}
use Rattle.pl_forward.proofs.group_hosts.without_port.Goals as goal

pub returns-then-port-ge32 : goal.returns-then-port-ge32
returns-then-port-ge32 c = has_none_beyond c.args.ports c.args.port c.if-port-ge32.true
