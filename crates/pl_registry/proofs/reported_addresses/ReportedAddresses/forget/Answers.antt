use Rattle.std.proofs.Common.{◌∙◌, ap, filter, not}
use Rattle.pl_layouts.specs.Equality.{same_pmac}
use Rattle.pl_node.specs.ManagerViews as manager
use Rattle.pl_registry.proofs.Entries.{each_once}
use Rattle.pl_registry.proofs.Reporting.{one_less}
use Rattle.pl_registry.proofs.reported_addresses.ReportedAddresses.forget.Goals as goal

pub invariant_of-self : goal.invariant_of-self
invariant_of-self c = each_once c.shift_remove.new.self.entries c.shift_remove.ensures.unique

pub returns : goal.returns
returns c =
    one_less c.args.pmac c.self.inside.told.entries c.shift_remove.new.self.entries c.self.invariant c.shift_remove.ensures.entries
    ∙ ap (filter (λ (r : manager.Reported). not (same_pmac r.pmac c.args.pmac))) c.self.view_is
