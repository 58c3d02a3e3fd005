use Rattle.std.proofs.Common.{◌≡◌, ◌∙◌, ap, sym}
use Rattle.pl_world.specs.QueueOrder.{queue_count}
use Rattle.pl_schedule.proofs.QueueLists.{length_of_order}
use Rattle.pl_schedule.proofs.world.World.queue_count.Goals as goal

pub returns-clause-order : goal.returns-clause-order
returns-clause-order g c =
    let same : c.wiring.result.now ≡ c.args.self.now.plan = c.wiring.ensures ∙ ap (λ w. w.plan) c.self.view_is in
    c.of.ensures.end ∙ ap queue_count same ∙ sym (length_of_order c.args.self.now.plan)
