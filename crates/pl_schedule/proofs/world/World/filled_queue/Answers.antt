use Rattle.std.proofs.Common.{◌≡◌, length, refl, ◌∙◌, ap, subst}
use Rattle.pl_queues.specs.Queues.{filled_indices}
use Rattle.pl_world.specs.Flying.{IsFormed}
use Rattle.pl_schedule.proofs.FilledQueues.{at_host, at_order, at_port, at_report}
use Rattle.pl_schedule.proofs.world.World.filled_queue.Goals as goal

pub returns-then-i-hosts : goal.returns-then-i-hosts
returns-then-i-hosts g c =
    let w = c.args.self.now in
    let formed : IsFormed w = subst IsFormed c.self.view_is c.self.invariant in
    let hosts : c.filled_count-hosts.result ≡ length (filled_indices w.from_hosts) =
    c.filled_count-hosts.ensures.count ∙ ap (λ v. length (filled_indices v.from_hosts)) c.self.view_is in
    c.filled_from_host.ensures.name
    ∙ at_host w formed c.args.i c.filled_count-hosts.result (length (filled_indices w.out)) (length (filled_indices w.to_manager)) hosts refl refl c.if-i-hosts.true

pub returns-then-behind_hosts-ports : goal.returns-then-behind_hosts-ports
returns-then-behind_hosts-ports g c =
    let w = c.args.self.now in
    let formed : IsFormed w = subst IsFormed c.self.view_is c.self.invariant in
    let hosts : c.filled_count-hosts.result ≡ length (filled_indices w.from_hosts) =
    c.filled_count-hosts.ensures.count ∙ ap (λ v. length (filled_indices v.from_hosts)) c.self.view_is in
    let ports : c.filled_count-ports.result ≡ length (filled_indices w.out) =
    c.filled_count-ports.ensures.count ∙ ap (λ queue_array. length (filled_indices queue_array)) c.out.ensures ∙ ap (λ v. length (filled_indices v.out)) c.self.view_is in
    c.filled_out.ensures
    ∙ at_port w formed c.args.i c.filled_count-hosts.result c.filled_count-ports.result (length (filled_indices w.to_manager)) hosts ports refl
    c.if-i-hosts.false c.if-behind_hosts-ports.true

pub returns-then-behind_ports-reports : goal.returns-then-behind_ports-reports
returns-then-behind_ports-reports g c =
    let w = c.args.self.now in
    let formed : IsFormed w = subst IsFormed c.self.view_is c.self.invariant in
    let hosts : c.filled_count-hosts.result ≡ length (filled_indices w.from_hosts) =
    c.filled_count-hosts.ensures.count ∙ ap (λ v. length (filled_indices v.from_hosts)) c.self.view_is in
    let ports : c.filled_count-ports.result ≡ length (filled_indices w.out) =
    c.filled_count-ports.ensures.count ∙ ap (λ queue_array. length (filled_indices queue_array)) c.out.ensures ∙ ap (λ v. length (filled_indices v.out)) c.self.view_is in
    let reports : c.filled_count-reports.result ≡ length (filled_indices w.to_manager) =
    c.filled_count-reports.ensures.count ∙ ap (λ queue_array. length (filled_indices queue_array)) c.queues.ensures
    ∙ ap (λ v. length (filled_indices v.to_manager)) c.self.view_is in
    c.filled_to_manager.ensures
    ∙ at_report w formed c.args.i c.filled_count-hosts.result c.filled_count-ports.result c.filled_count-reports.result hosts ports reports
    c.if-i-hosts.false c.if-behind_hosts-ports.false c.if-behind_ports-reports.true

pub returns : goal.returns
returns g c =
    let w = c.args.self.now in
    let formed : IsFormed w = subst IsFormed c.self.view_is c.self.invariant in
    let hosts : c.filled_count-hosts.result ≡ length (filled_indices w.from_hosts) =
    c.filled_count-hosts.ensures.count ∙ ap (λ v. length (filled_indices v.from_hosts)) c.self.view_is in
    let ports : c.filled_count-ports.result ≡ length (filled_indices w.out) =
    c.filled_count-ports.ensures.count ∙ ap (λ queue_array. length (filled_indices queue_array)) c.out.ensures ∙ ap (λ v. length (filled_indices v.out)) c.self.view_is in
    let reports : c.filled_count-reports.result ≡ length (filled_indices w.to_manager) =
    c.filled_count-reports.ensures.count ∙ ap (λ queue_array. length (filled_indices queue_array)) c.queues.ensures
    ∙ ap (λ v. length (filled_indices v.to_manager)) c.self.view_is in
    c.filled_from_manager.ensures
    ∙ at_order w formed c.args.i c.filled_count-hosts.result c.filled_count-ports.result c.filled_count-reports.result hosts ports reports
    c.if-i-hosts.false c.if-behind_hosts-ports.false c.if-behind_ports-reports.false
