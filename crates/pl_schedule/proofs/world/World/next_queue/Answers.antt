use Rattle.std.proofs.Common.{sym, ◌∙◌}
use Rattle.pl_schedule.proofs.NextQueues.{at_host_answers, at_order_answers, at_port_answers, at_report_answers}
use Rattle.pl_schedule.proofs.world.World.next_queue.Goals as goal

pub returns-in-Some-clause-next : goal.returns-in-Some-clause-next
returns-in-Some-clause-next g c =
    (at_host_answers c.args.self.now c.next_from_host.ensures.formed c.args.from c.in-Some.n (sym c.in-Some.is ∙ c.next_from_host.ensures.next)).0

pub returns-in-Some-clause-there : goal.returns-in-Some-clause-there
returns-in-Some-clause-there g c =
    (at_host_answers c.args.self.now c.next_from_host.ensures.formed c.args.from c.in-Some.n (sym c.in-Some.is ∙ c.next_from_host.ensures.next)).1

pub returns-in-Some-next_out-clause-next : goal.returns-in-Some-next_out-clause-next
returns-in-Some-next_out-clause-next g c =
    (at_port_answers c.args.self.now c.next_from_host.ensures.formed c.args.from c.in-Some-next_out.n (sym c.in_default.is ∙ c.next_from_host.ensures.next)
    (sym c.in-Some-next_out.is ∙ c.next_out.ensures)).0

pub returns-in-Some-next_out-clause-there : goal.returns-in-Some-next_out-clause-there
returns-in-Some-next_out-clause-there g c =
    (at_port_answers c.args.self.now c.next_from_host.ensures.formed c.args.from c.in-Some-next_out.n (sym c.in_default.is ∙ c.next_from_host.ensures.next)
    (sym c.in-Some-next_out.is ∙ c.next_out.ensures)).1

pub returns-in-Some-next_to_manager-clause-next : goal.returns-in-Some-next_to_manager-clause-next
returns-in-Some-next_to_manager-clause-next g c =
    (at_report_answers c.args.self.now c.next_from_host.ensures.formed c.args.from c.in-Some-next_to_manager.n
    (sym c.in_default.is ∙ c.next_from_host.ensures.next) (sym c.in_default-next_out.is ∙ c.next_out.ensures)
    (sym c.in-Some-next_to_manager.is ∙ c.next_to_manager.ensures)).0

pub returns-in-Some-next_to_manager-clause-there : goal.returns-in-Some-next_to_manager-clause-there
returns-in-Some-next_to_manager-clause-there g c =
    (at_report_answers c.args.self.now c.next_from_host.ensures.formed c.args.from c.in-Some-next_to_manager.n
    (sym c.in_default.is ∙ c.next_from_host.ensures.next) (sym c.in_default-next_out.is ∙ c.next_out.ensures)
    (sym c.in-Some-next_to_manager.is ∙ c.next_to_manager.ensures)).1

pub returns-clause-next : goal.returns-clause-next
returns-clause-next g c =
    (at_order_answers c.args.self.now c.next_from_host.ensures.formed c.args.from c.next_from_manager.result
    (sym c.in_default.is ∙ c.next_from_host.ensures.next) (sym c.in_default-next_out.is ∙ c.next_out.ensures)
    (sym c.in_default-next_to_manager.is ∙ c.next_to_manager.ensures) c.next_from_manager.ensures).0

pub returns-clause-there : goal.returns-clause-there
returns-clause-there g c =
    (at_order_answers c.args.self.now c.next_from_host.ensures.formed c.args.from c.next_from_manager.result
    (sym c.in_default.is ∙ c.next_from_host.ensures.next) (sym c.in_default-next_out.is ∙ c.next_out.ensures)
    (sym c.in_default-next_to_manager.is ∙ c.next_to_manager.ensures) c.next_from_manager.ensures).1
