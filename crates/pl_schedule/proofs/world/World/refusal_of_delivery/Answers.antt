use Rattle.std.proofs.Common.{◌∙◌, ap}
use Rattle.pl_schedule.specs.Looks.{refusal_of_len}
use Rattle.pl_schedule.proofs.Refusing.{refused_by_length}
use Rattle.pl_schedule.proofs.world.World.refusal_of_delivery.Goals as goal

pub returns : goal.returns
returns g c = c.refusal_of_len.ensures ∙ ap refusal_of_len c.queue_len.ensures ∙ refused_by_length c.args.self.now c.args.name.now
