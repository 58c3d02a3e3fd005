use Rattle.std.proofs.Common.{◌≡◌, length, ◌∙◌, ap, subst, arith}
use Rattle.pl_queues.specs.Queues.{filled_indices}
use Rattle.pl_world.specs.Flying.{IsFormed}
use Rattle.pl_schedule.proofs.FilledQueues.{count_of_all}
use Rattle.pl_schedule.proofs.world.World.filled_count.Goals as goal

pub returns-clause-count : goal.returns-clause-count
returns-clause-count g c =
    let w = c.args.self.now in
    let hosts : c.filled_count-hosts.result ≡ length (filled_indices w.from_hosts) =
    c.filled_count-hosts.ensures.count ∙ ap (λ v. length (filled_indices v.from_hosts)) c.self.view_is in
    let ports : c.filled_count-ports.result ≡ length (filled_indices w.out) =
    c.filled_count-ports.ensures.count ∙ ap (λ queue_array. length (filled_indices queue_array)) c.out.ensures ∙ ap (λ v. length (filled_indices v.out)) c.self.view_is in
    let reports : c.filled_count-reports.result ≡ length (filled_indices w.to_manager) =
    c.filled_count-reports.ensures.count ∙ ap (λ queue_array. length (filled_indices queue_array)) c.queues.ensures
    ∙ ap (λ v. length (filled_indices v.to_manager)) c.self.view_is in
    let orders : c.filled_count-orders.result ≡ length (filled_indices w.from_manager) =
    c.filled_count-orders.ensures.count ∙ ap (λ queue_array. length (filled_indices queue_array)) c.queues-2.ensures
    ∙ ap (λ v. length (filled_indices v.from_manager)) c.self.view_is in
    let all = count_of_all w (subst IsFormed c.self.view_is c.self.invariant) in
    omega (arith, hosts, ports, reports, orders, all)
