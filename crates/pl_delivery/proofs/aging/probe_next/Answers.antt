use Rattle.std.proofs.Common.{◌≡◌, ◌∙◌, ◌++◌, List, Option, Some, None, ap, subst, sym}
use Rattle.pl_node.specs.declared.switch_records.Grant.{Grant}
use Rattle.pl_migrate.specs.AddressTables.{granted_in}
use Rattle.pl_delivery.proofs.Ticks.{probed_so, unprobed_so}
use Rattle.pl_delivery.proofs.aging.probe_next.Goals as goal

pub returns-in-Some : goal.returns-in-Some
returns-in-Some c =
    probed_so c.args.address_table.now c.args.pmac c.in-Some.grant c.args.done c.probe.result c.args.out.now c.probe.new.out (sym c.granted.ensures
    ∙ c.in-Some.is) c.requires
    _ c.in_ok-done.was c.probe.ensures

pub returns-in-None : goal.returns-in-None
returns-in-None c = unprobed_so c.args.address_table.now c.args.pmac c.requires (sym c.granted.ensures ∙ c.in-None.is)
