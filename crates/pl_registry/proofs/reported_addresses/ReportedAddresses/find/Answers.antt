use Rattle.std.proofs.Common.{◌∙◌, ap, find, sym}
use Rattle.std.specs.Option.{option_map}
use Rattle.pl_layouts.specs.Equality.{same_pmac}
use Rattle.pl_node.specs.ManagerViews as manager
use Rattle.pl_registry.specs.ReportedAddresses.{reported_at}
use Rattle.pl_registry.proofs.Entries.{looked_up}
use Rattle.pl_registry.proofs.Reporting.{told_found}
use Rattle.pl_registry.proofs.reported_addresses.ReportedAddresses.find.Goals as goal

pub returns : goal.returns
returns c =
    ap (option_map (reported_at c.args.pmac)) (c.copied.ensures ∙ c.get.ensures.value ∙ looked_up c.args.pmac c.self.inside.told.entries)
    ∙ sym (told_found c.args.pmac c.self.inside.told.entries)
    ∙ ap (find (λ (r : manager.Reported). same_pmac r.pmac c.args.pmac)) c.self.view_is
