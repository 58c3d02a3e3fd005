use Rattle.std.proofs.Common.{◌≡◌, true≢false, sym, ◌∙◌}
use Rattle.pl_world.specs.Pending.{pending}
use Rattle.pl_world.proofs.Exports.{none_is_pending}
use Rattle.pl_fabric.proofs.fabric.settled.Goals as goal

pub returns-then-not-has_reports : goal.returns-then-not-has_reports
returns-then-not-has_reports g c = (λ no. absurd (cc), λ is. absurd (true≢false (sym is.reports ∙ sym c.if-not-has_reports.ensures)))

pub returns-then-pending-eq0 : goal.returns-then-pending-eq0
returns-then-pending-eq0 g c =
    let w = c.args.world.now in
    let none : pending w ≡ 0 = sym c.pending.ensures ∙ c.if-pending-eq0.true in (
      λ yes. record { queues = (none_is_pending w c.requires).0 none; switches = c.are_settled_switches.ensures.0 yes; reports = sym c.if-not-has_reports.ensures },
      λ is. c.are_settled_switches.ensures.1 is.switches,
    )

pub returns-else-pending-eq0 : goal.returns-else-pending-eq0
returns-else-pending-eq0 g c =
    let w = c.args.world.now in
    (λ no. absurd (cc), λ is. absurd (c.if-pending-eq0.false (c.pending.ensures ∙ (none_is_pending w c.requires).1 is.queues)))
