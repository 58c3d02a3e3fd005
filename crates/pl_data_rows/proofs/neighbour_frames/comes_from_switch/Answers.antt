use Rattle.pl_data_rows.proofs.NeighbourRows.{gone_nowhere, gone_on, gone_to_group}
use Rattle.pl_data_rows.proofs.neighbour_frames.comes_from_switch.Goals as goal

pub returns-then-has_no_way : goal.returns-then-has_no_way
returns-then-has_no_way g c =
    gone_nowhere (g.S.SwitchFacts.view c.args.switch.now) c.args.port c.args.frame.now c.has_no_way.result c.args.out.now c.push.new.self c.has_no_way.ensures c.if-has_no_way.true
    c.in_ok-push.ensures.ok

pub returns-then-is_for_group : goal.returns-then-is_for_group
returns-then-is_for_group g c =
    gone_to_group (g.S.SwitchFacts.view c.args.switch.now) c.args.port c.args.frame.now c.has_no_way.result c.is_for_group.result c.came_by-came.result c.args.out.now c.forward_to_group.new.out
    c.has_no_way.ensures c.if-has_no_way.false c.is_for_group.ensures c.if-is_for_group.true c.came_by-came.ensures c.in_ok-forward_to_group.ensures

pub returns : goal.returns
returns g c =
    gone_on (g.S.SwitchFacts.view c.args.switch.now) c.args.port c.args.frame.now c.has_no_way.result c.is_for_group.result c.in_ok-copy.copy c.args.out.now c.pass_on.new.out
    c.has_no_way.ensures c.if-has_no_way.false c.is_for_group.ensures c.if-is_for_group.false c.in_ok-copy.ensures c.in_ok-pass_on.ensures
