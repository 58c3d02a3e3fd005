use Rattle.std.proofs.Common.{◌∙◌, Some, ap}
use Rattle.pl_node.specs.ManagerViews.{Learnt}
use Rattle.pl_manager_rule.specs.Reports.{known_at}
use Rattle.pl_registry.specs.ReportedAddresses.{reported_at}
use Rattle.pl_registry.specs.declared.reported_addresses.Reported.{Reported}
use Rattle.pl_registry.proofs.Releasing.{registered_known, reported_known}
use Rattle.pl_registry.proofs.registry.Registry.known.Goals as goal

pub returns-in-Some : goal.returns-in-Some
returns-in-Some c =
    let learnt : Learnt = record { addresses = c.self.inside.addresses; reported = c.self.inside.reported; owners = c.self.inside.owners; count = c.self.inside.count } in
    ap (λ (r : Reported). Some (reported_at c.args.pmac r)) c.as_reported.ensures
    ∙ registered_known learnt c.args.pmac c.in-Some.known c.in-Some.ensures.address ∙ ap (λ (l : Learnt). known_at l c.args.pmac) c.self.view_is

pub returns-in-None : goal.returns-in-None
returns-in-None c =
    let learnt : Learnt = record { addresses = c.self.inside.addresses; reported = c.self.inside.reported; owners = c.self.inside.owners; count = c.self.inside.count } in
    reported_known learnt c.args.pmac _ c.in-None.ensures.address c.find.ensures ∙ ap (λ (l : Learnt). known_at l c.args.pmac) c.self.view_is
