use Rattle.std.proofs.Common.{◌∙◌, ◌++◌, ◌∷◌, [], List, ap, find}
use Rattle.pl_layouts.specs.Equality.{same_pmac}
use Rattle.pl_node.specs.ManagerViews as manager
use Rattle.pl_registry.specs.ReportedAddresses.{reported_at}
use Rattle.pl_registry.proofs.Entries.{each_once}
use Rattle.pl_registry.proofs.Reporting.{one_more}
use Rattle.pl_registry.proofs.reported_addresses.ReportedAddresses.add.Goals as goal

pub invariant_of-self : goal.invariant_of-self
invariant_of-self c = each_once c.insert.new.self.entries c.insert.ensures.unique

pub returns-clause-ok : goal.returns-clause-ok
returns-clause-ok c =
    one_more c.args.pmac c.args.reported c.self.inside.told.entries c.insert.new.self.entries
    (ap (λ (v : List manager.Reported). find (λ r. same_pmac r.pmac c.args.pmac) v) c.self.view_is ∙ c.requires) c.in_ok-insert.ensures.entries
    ∙ ap (λ (v : List manager.Reported). v ++ reported_at c.args.pmac c.args.reported ∷ []) c.self.view_is
