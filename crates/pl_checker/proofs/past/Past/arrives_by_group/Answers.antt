use Rattle.std.proofs.Common.{None, refl}
use Rattle.pl_past.specs.Kept.{kept}
use Rattle.pl_past_tables.specs.Keys.{edge_port_at}
use Rattle.pl_checker.proofs.Arrives.{arrived_before, by_group, group_not_reached, may_not, stands_nowhere}
use Rattle.pl_checker.proofs.past.Past.arrives_by_group.Goals as goal

pub returns-in_default : goal.returns-in_default
returns-in_default c = λ past id keeps is.
    stands_nowhere c.args.wiring.now c.args.text.now past id c.args.host c.args.frame.now c.args.row.now is None (c.in_default.ensures past keeps.hosts) refl

pub returns-then-not-ends_at : goal.returns-then-not-ends_at
returns-then-not-ends_at c = λ past id keeps is.
    group_not_reached c.args.wiring.now c.args.text.now past id c.args.host c.args.frame.now c.args.row.now is (edge_port_at c.in-Some.stands) c.ends_at.result
    (c.in-Some.ensures past keeps.hosts) c.ends_at.ensures c.if-not-ends_at.true

pub returns-then-has_arrived : goal.returns-then-has_arrived
returns-then-has_arrived c = λ past id keeps is.
    arrived_before c.args.wiring.now c.args.text.now past id c.args.host c.args.frame.now c.args.row.now is (edge_port_at c.in-Some.stands) c.has_arrived.result
    (c.in-Some.ensures past keeps.hosts) (c.has_arrived.ensures c.args.wiring.now past keeps.groups) c.if-has_arrived.true

pub returns-then-not-may_receive : goal.returns-then-not-may_receive
returns-then-not-may_receive c = λ past id keeps is.
    may_not c.args.wiring.now c.args.text.now past id c.args.host c.args.frame.now c.args.row.now is (edge_port_at c.in-Some.stands) c.may_receive.result
    (c.in-Some.ensures past keeps.hosts) (c.may_receive.ensures c.args.text.now past keeps) c.if-not-may_receive.true

pub returns : goal.returns
returns c = λ past id keeps is.
    let w = c.args.wiring.now in
    by_group w c.args.text.now past id c.args.host c.args.frame.now c.args.row.now is (edge_port_at c.in-Some.stands) c.ends_at.result c.has_arrived.result
    c.may_receive.result
    c.in_ok-unaltered.unaltered (c.in-Some.ensures past keeps.hosts) c.ends_at.ensures (c.has_arrived.ensures w past keeps.groups)
    (c.may_receive.ensures c.args.text.now past keeps)
    c.if-not-ends_at.false c.if-has_arrived.false c.if-not-may_receive.false (c.in_ok-unaltered.ensures (kept w past id) is tt)
