use Rattle.pl_law_executions.proofs.OneWayOfExecutions.{makes_all_one_way, makes_one_way, ticks_all_one_way}
use Rattle.pl_law_executions.proofs.execution_laws.events_in_order_go_one_way.Goals as goal

pub returns-clause-one : goal.returns-clause-one
returns-clause-one g c = makes_one_way g.S.SwitchLogic.rule g.M.ManagerLogic.rule g.H.HostLogic.rule

pub returns-clause-many : goal.returns-clause-many
returns-clause-many g c = makes_all_one_way g.S.SwitchLogic.rule g.M.ManagerLogic.rule g.H.HostLogic.rule

pub returns-clause-ticks : goal.returns-clause-ticks
returns-clause-ticks g c = ticks_all_one_way g.S.SwitchLogic.rule g.M.ManagerLogic.rule g.H.HostLogic.rule
