use Rattle.std.proofs.Common.{◌∙◌, ap}
use Rattle.std.specs.List.{list_any}
use Rattle.pl_manager_rule.specs.Reports.{is_known_trapped_to}
use Rattle.pl_registry.proofs.Reporting.{trap_listed}
use Rattle.pl_registry.proofs.reported_addresses.ReportedAddresses.is_led_to.Goals as goal

pub returns : goal.returns
returns c = c.is_any_trap_to.ensures ∙ trap_listed c.args.pmac c.self.inside.told.entries ∙ ap (list_any (is_known_trapped_to c.args.pmac)) c.self.view_is
