use Rattle.std.proofs.Common.{arith}
use Rattle.pl_node.specs.HostInputs.HostAnswer.{Nothing}
use Rattle.pl_world_parts.specs.OneStep.{input_of}
use Rattle.pl_world_parts.proofs.OneChanged.{host_steps}
use Rattle.pl_world_parts.proofs.one_step.host_call_at.Goals as goal

pub returns-clause-step : goal.returns-clause-step
returns-clause-step g c = host_steps g.H.HostLogic.view c.args.hosts.now.items c.args.h c.index_mut.result.now c.host_call.new.host g.H.HostLogic.rule (input_of c.args.to) Nothing
    c.args.out.now c.host_call.new.out (let ok = c.args.hosts.now.ok in let r = c.requires in omega arith) c.index_mut.ensures.value c.in_ok-host_call.ensures
