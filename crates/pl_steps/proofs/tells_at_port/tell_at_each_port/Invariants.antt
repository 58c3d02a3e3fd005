use Rattle.std.proofs.Common.{◌≡◌, ◌++◌}
use Rattle.pl_steps.specs.PortsTold.{at_each_port}
use Rattle.pl_steps.proofs.tells_at_port.tell_at_each_port.Given as goal

abbrev pub invariant-loop-port : goal.invariant-loop-port
invariant-loop-port g l = l.out ≡ l.initial.out ++ at_each_port (g.T.TellsAtPort.told l.teller) l.port
