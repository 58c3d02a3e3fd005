use Rattle.std.proofs.Common.{sym, ap, ◌∙◌}
use Rattle.pl_delivery.proofs.Rest.{goes_on_here}
use Rattle.pl_delivery.proofs.home.go_on.Goals as goal
use Rattle.pl_migrate.specs.AddressTables.{is_here}
use Rattle.pl_switch_rule.specs.Delivering.{destination}

pub returns-in_ok-deliver-clause-taken : goal.returns-in_ok-deliver-clause-taken
returns-in_ok-deliver-clause-taken c = λ choose v.
    let to = c.destination.ensures ∙ ap destination c.bytes.ensures in
    goes_on_here c.args.address_table.now choose v c.args.frame c.args.out.now c.deliver.new.out
    (sym (ap (is_here c.args.address_table.now) to) ∙ sym c.is_local.ensures ∙ c.if-is_local.true) (c.in_ok-deliver.ensures v)
