use Rattle.std.proofs.Common.{arith}
use Rattle.pl_node.specs.HostInputs.HostAnswer.{Played}
use Rattle.pl_world.specs.WorldRule.{played_as}
use Rattle.pl_world_parts.proofs.OneChanged.{host_steps}
use Rattle.pl_world_parts.proofs.one_step.play_at.Goals as goal

pub returns-clause-step : goal.returns-clause-step
returns-clause-step g c = host_steps g.H.HostLogic.view c.args.hosts.now.items c.args.h c.index_mut.result.now c.play.new.host g.H.HostLogic.rule (played_as c.args.raw c.args.frame.now c.args.original) (Played _)
    c.args.out.now c.play.new.out (let ok = c.args.hosts.now.ok in let r = c.requires in omega arith) c.index_mut.ensures.value c.in_ok-skip.ensures
