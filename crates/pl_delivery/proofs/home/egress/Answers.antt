use Rattle.std.proofs.Common.{sym, ap, ◌∙◌}
use Rattle.std.proofs.lemmas.Result.{IfOk-weaker}
use Rattle.pl_delivery.proofs.Rest.{home_delivered, home_trapped}
use Rattle.pl_delivery.proofs.home.egress.Goals as goal
use Rattle.pl_delivery.specs.Sending.{IsSentBy, left_to_do}
use Rattle.pl_migrate.specs.AddressTables.{address_table_in, trap_in}
use Rattle.pl_switch_rule.specs.Delivering.{comes_home, destination, is_trapped}

pub returns-in-Some-clause-taken : goal.returns-in-Some-clause-taken
returns-in-Some-clause-taken c =
    let to = c.destination.ensures ∙ ap destination c.bytes.ensures in
    IfOk-weaker c.redirect.result
    (IsSentBy (λ choose v. is_trapped choose v c.args.frame c.in-Some.trap) c.args.address_table.now c.args.out.now c.redirect.new.out)
    (IsSentBy (λ choose v. comes_home choose v c.args.frame) c.args.address_table.now c.args.out.now c.redirect.new.out)
    (λ sent taken choose v. home_trapped c.args.address_table.now choose v c.args.frame c.in-Some.trap (left_to_do choose sent (address_table_in c.args.address_table.now v)) c.args.out.now c.redirect.new.out
    (sym c.in-Some.is ∙ c.follow.ensures ∙ ap (trap_in c.args.address_table.now) to) (taken choose v))
    c.redirect.ensures.taken

pub returns-in_ok-deliver-in-None-clause-taken : goal.returns-in_ok-deliver-in-None-clause-taken
returns-in_ok-deliver-in-None-clause-taken c = λ choose v.
    let to = c.destination.ensures ∙ ap destination c.bytes.ensures in
    home_delivered c.args.address_table.now choose v c.args.frame c.args.out.now c.deliver.new.out
    (sym c.in-None.is ∙ c.follow.ensures ∙ ap (trap_in c.args.address_table.now) to) (c.in_ok-deliver-in-None.ensures v)
