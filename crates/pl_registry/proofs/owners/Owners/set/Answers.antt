use Rattle.std.proofs.Common.{◌∙◌, ap}
use Rattle.std.specs.BTreeMap.{insert_entry}
use Rattle.pl_node.specs.HostViews.{ip_cmp}
use Rattle.pl_registry.proofs.Telling.{told_more}
use Rattle.pl_registry.proofs.owners.Owners.set.Goals as goal

pub returns-clause-ok : goal.returns-clause-ok
returns-clause-ok c =
    told_more c.self.inside.told.entries c.insert.new.self.entries c.args.ip c.args.amac c.in_ok-insert.ensures.updates.0
    ∙ ap (λ entries. insert_entry ip_cmp entries c.args.ip c.args.amac) c.self.view_is
