use Rattle.std.proofs.Common.{◌≡◌, sym, ◌∙◌, arith}
use Rattle.pl_migrate.proofs.Led.{HasLed, led_further, led_last, led_so_far, led_taken, led_to_the_end}
use Rattle.pl_migrate.proofs.address_table.AddressTable.redirect.Goals as goal

pub loop-left-preserved : goal.loop-left-preserved
loop-left-preserved c =
    led_further c.args.self.now c.loop-left.left c.loop-left.last c.in-Some.next c.loop-left.out c.push-in-Some.new.self
    c.addresses-left.result c.args.trap c.push.new.self c.loop-left-test.true (sym c.in-Some.is ∙ c.next_trap.ensures)
    c.in_ok-push-in-Some.ensures.ok c.loop-left.invariant

none_further : (c : goal.In-None) → HasLed c.args.self.now c.loop-left.last c.loop-left.out c.addresses-left.result c.args.trap c.push.new.self
none_further c =
    led_to_the_end c.args.self.now c.loop-left.left c.loop-left.last c.loop-left.out c.addresses-left.result c.args.trap c.push.new.self
    (sym c.in-None.is ∙ c.next_trap.ensures) c.loop-left.invariant

none_left : (c : goal.After-loop-left) → HasLed c.args.self.now c.loop-left.last c.loop-left.out c.addresses-left.result c.args.trap c.push.new.self
none_left c =
    let done : c.loop-left.left ≡ 0 = omega arith in
    led_so_far c.args.self.now c.loop-left.left c.loop-left.last c.loop-left.out c.addresses-left.result c.args.trap c.push.new.self
    done c.loop-left.invariant

pub returns-in-None-clause-taken : goal.returns-in-None-clause-taken
returns-in-None-clause-taken c =
    led_taken c.args.self.now c.args.old c.loop-left.last c.loop-left.out c.addresses-left.result c.args.trap c.push.new.self c.args.out.now
    c.in_ok-push.ensures.ok c.addresses-left.ensures (none_further c)

pub returns-in-None-clause-last : goal.returns-in-None-clause-last
returns-in-None-clause-last c =
    led_last c.args.self.now c.loop-left.last c.loop-left.out c.addresses-left.result c.args.trap c.push.new.self c.addresses-left.ensures (none_further c)

pub returns-clause-taken : goal.returns-clause-taken
returns-clause-taken c =
    led_taken c.args.self.now c.args.old c.loop-left.last c.loop-left.out c.addresses-left.result c.args.trap c.push.new.self c.args.out.now
    c.in_ok-push.ensures.ok c.addresses-left.ensures (none_left c)

pub returns-clause-last : goal.returns-clause-last
returns-clause-last c =
    led_last c.args.self.now c.loop-left.last c.loop-left.out c.addresses-left.result c.args.trap c.push.new.self c.addresses-left.ensures (none_left c)
