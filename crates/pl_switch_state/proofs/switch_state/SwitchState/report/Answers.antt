use Rattle.pl_switch_state.proofs.Reported.{all_reported}
use Rattle.pl_switch_state.proofs.switch_state.SwitchState.report.Goals as goal

pub returns : goal.returns
returns c =
    let s = c.self.inside in
    all_reported c.args.self.now s.ports s.proposer s.holder s.edge s.avoid s.parts.entries s.epoch c.args.epoch c.args.out.now c.push.new.self c.report.new.out
    c.report-2.new.out c.report_groups.new.out c.push-2.new.self
    c.self.view_is c.self.invariant.address_table.at c.self.invariant.hosts
    c.in_ok-push.ensures.ok c.in_ok-report.ensures c.in_ok-report-2.ensures c.in_ok-report_groups.ensures c.in_ok-push-2.ensures.ok
