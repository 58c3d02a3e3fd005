use Rattle.std.proofs.Common.{ap, ◌∙◌}
use Rattle.std.proofs.lemmas.Result.{IfOk-weaker}
use Rattle.pl_delivery.proofs.Rest.{trapped}
use Rattle.pl_delivery.proofs.home.redirect.Goals as goal
use Rattle.pl_delivery.specs.Sending.{IsSentBy, left_to_do}
use Rattle.pl_migrate.specs.AddressTables.{address_table_in}
use Rattle.pl_switch_rule.specs.Delivering.{destination, goes_on, is_trapped}

pub returns-clause-taken : goal.returns-clause-taken
returns-clause-taken c =
    IfOk-weaker c.go_on.result
    (IsSentBy (λ choose v. goes_on choose v c.readdress.new.frame) c.args.address_table.now c.redirect.new.out c.go_on.new.out)
    (IsSentBy (λ choose v. is_trapped choose v c.args.frame c.args.trap) c.args.address_table.now c.args.out.now c.go_on.new.out)
    (λ sent further choose v. trapped c.args.address_table.now choose v c.args.frame c.readdress.new.frame c.args.trap c.in_ok-last.last c.destination-old.result
    (left_to_do choose sent (address_table_in c.args.address_table.now v)) c.args.out.now c.redirect.new.out c.go_on.new.out
    (c.destination-old.ensures ∙ ap destination c.bytes.ensures) (c.in_ok-last.ensures.last v) c.readdress.ensures.frame (c.in_ok-last.ensures.taken v) (further choose v))
    c.go_on.ensures.taken
