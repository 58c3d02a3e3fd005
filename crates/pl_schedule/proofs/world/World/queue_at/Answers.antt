use Rattle.std.proofs.Common.{◌≡◌, ◌∙◌, ap, subst}
use Rattle.pl_wiring.specs.Plan.{IsPlan}
use Rattle.pl_world.specs.QueueOrder.{queue_at}
use Rattle.pl_schedule.proofs.QueueLists.{member_of_order}
use Rattle.pl_schedule.proofs.world.World.queue_at.Goals as goal

pub returns-clause-order : goal.returns-clause-order
returns-clause-order g c =
    let same : c.wiring.result.now ≡ c.args.self.now.plan = c.wiring.ensures ∙ ap (λ w. w.plan) c.self.view_is in
    member_of_order c.args.self.now.plan c.args.n c.name_at.result (subst IsPlan same c.name_at.ensures.plan) c.requires
    (c.name_at.ensures.name ∙ ap (λ plan. queue_at plan c.args.n) same)
