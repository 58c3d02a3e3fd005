use Rattle.pl_data_rows.proofs.HostRows.{host_found}
use Rattle.pl_data_rows.proofs.host_frames.comes_from_host.Goals as goal

pub returns-clause-taken : goal.returns-clause-taken
returns-clause-taken g c =
    host_found (g.S.SwitchFacts.view c.args.switch.now) c.args.port c.args.frame.now c.has_no_hosts.result (g.S.SwitchFacts.view c.find_host.new.self) (g.S.SwitchFacts.view c.learn_and_take_in.new.switch) c.in_ok-copy.copy
    c.args.out.now c.find_host.new.out c.learn_and_take_in.new.out
    c.has_no_hosts.ensures c.if-has_no_hosts.false c.in_ok-copy.ensures c.in_ok-find_host.ensures.taken c.in_ok-learn_and_take_in.ensures.taken
