use Rattle.std.proofs.Common.{◌∙◌, ap}
use Rattle.pl_node.specs.ManagerViews.{Learnt}
use Rattle.pl_manager_rule.specs.Reports.{known_at}
use Rattle.pl_registry.proofs.Releasing.{none_reported}
use Rattle.pl_registry.proofs.registry.Registry.note_reported_aged.Goals as goal

pub add-requires : goal.add-requires
add-requires c =
    let learnt : Learnt = record { addresses = c.self.inside.addresses; reported = c.self.inside.reported; owners = c.self.inside.owners; count = c.self.inside.count } in
    none_reported learnt c.args.pmac (ap (λ (l : Learnt). known_at l c.args.pmac) c.self.view_is ∙ c.requires)
