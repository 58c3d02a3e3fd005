use Rattle.pl_data_rows.proofs.HostRows.{has_address}
use Rattle.pl_data_rows.proofs.host_frames.learn_and_take_in.Goals as goal

pub returns-clause-taken : goal.returns-clause-taken
returns-clause-taken g c =
    has_address (g.S.SwitchFacts.view c.args.switch.now) c.args.port c.args.frame (g.S.SwitchFacts.view c.learn.new.self) (g.S.SwitchFacts.view c.take_in.new.switch) c.in_ok-learn.field-0 c.args.out.now c.learn.new.out c.take_in.new.out
    c.in_ok-learn.ensures.taken c.in_ok-learn.ensures.known c.if-not-branch.false c.in_ok-take_in.ensures.taken
