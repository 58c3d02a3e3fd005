use Rattle.pl_steps.proofs.Exports.{passing_ports_more}
use Rattle.pl_forward.proofs.port_test.ports_that_pass.Goals as goal

pub loop-port-preserved : goal.loop-port-preserved
loop-port-preserved g c = let e = passing_ports_more (g.T.PortTest.passes c.args.test.now) c.loop-port.port in cc
