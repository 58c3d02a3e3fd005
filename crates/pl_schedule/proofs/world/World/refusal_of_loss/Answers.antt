use Rattle.std.proofs.Common.{◌∙◌, ap, sym}
use Rattle.pl_schedule.specs.Looks.{refusal_of_len}
use Rattle.pl_schedule.proofs.Refusing.{loss_by_length}
use Rattle.pl_schedule.proofs.world.World.refusal_of_loss.Goals as goal

pub returns-then-is_linked : goal.returns-then-is_linked
returns-then-is_linked g c = c.refusal_of_len.ensures ∙ ap refusal_of_len c.queue_len.ensures
    ∙ loss_by_length c.args.self.now c.args.s c.args.port (sym c.is_linked.ensures ∙ c.if-is_linked.true)
