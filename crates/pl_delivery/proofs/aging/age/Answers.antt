use Rattle.pl_delivery.proofs.Ticks.{has_caught_up, has_taken, keeps_on, keeps_probed}
use Rattle.pl_delivery.proofs.aging.age.Goals as goal

pub probe_all-probed-requires : goal.probe_all-probed-requires
probe_all-probed-requires c = c.falls_due_in_order.ensures

pub returns-clause-taken : goal.returns-clause-taken
returns-clause-taken c =
    has_taken c.args.address_table.now c.age.new.self c.probe_all-probed.new.address_table c.tell_all_aged.new.address_table c.args.out.now
    c.probe_all-probed.new.out
    c.tell_all_aged.new.out c.probe_all-probed.result c.tell_all_aged.result c.requires c.in_ok-age.ensures.older c.in_ok-age.ensures.same
    c.falls_due_in_order.ensures
    c.probe_all-probed.ensures c.tell_all_aged.ensures

pub returns-clause-caught_up : goal.returns-clause-caught_up
returns-clause-caught_up c =
    has_caught_up c.args.address_table.now c.age.new.self c.probe_all-probed.new.address_table c.tell_all_aged.new.address_table c.args.out.now
    c.probe_all-probed.new.out
    c.tell_all_aged.new.out c.probe_all-probed.result c.tell_all_aged.result c.requires c.in_ok-age.ensures.same c.falls_due_in_order.ensures
    c.probe_all-probed.ensures c.tell_all_aged.ensures

pub returns-clause-kept : goal.returns-clause-kept
returns-clause-kept c =
    keeps_on c.args.address_table.now c.age.new.self c.tell_all_aged.new.address_table c.age.ensures.kept
    (keeps_on c.age.new.self c.probe_all-probed.new.address_table c.tell_all_aged.new.address_table
    (keeps_probed c.age.new.self c.probe_all-probed.new.address_table c.args.out.now c.probe_all-probed.new.out c.probe_all-probed.result
    c.probe_all-probed.ensures)
    c.tell_all_aged.ensures.kept)
