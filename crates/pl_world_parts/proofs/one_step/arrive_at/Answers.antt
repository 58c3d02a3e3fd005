use Rattle.std.proofs.Common.{arith}
use Rattle.pl_node.specs.HostInputs.HostAnswer.{Received}
use Rattle.pl_node.specs.HostInputs.HostInput.{Receives}
use Rattle.pl_world_parts.proofs.OneChanged.{host_steps}
use Rattle.pl_world_parts.proofs.one_step.arrive_at.Goals as goal

pub returns-clause-step : goal.returns-clause-step
returns-clause-step g c = host_steps g.H.HostLogic.view c.args.hosts.now.items c.args.h c.index_mut.result.now c.receive.new.self g.H.HostLogic.rule (Receives c.args.frame.now) (Received _)
    c.args.out.now c.receive.new.out (let ok = c.args.hosts.now.ok in let r = c.requires in omega arith) c.index_mut.ensures.value c.in_ok-reception.ensures.step
