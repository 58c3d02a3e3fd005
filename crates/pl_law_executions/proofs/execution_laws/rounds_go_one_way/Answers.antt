use Rattle.pl_law_executions.proofs.OneWayOfExecutions.{goes_round_one_way, goes_rounds_one_way}
use Rattle.pl_law_executions.proofs.execution_laws.rounds_go_one_way.Goals as goal

pub returns-clause-one : goal.returns-clause-one
returns-clause-one g c = goes_round_one_way g.S.SwitchLogic.rule g.M.ManagerLogic.rule g.H.HostLogic.rule

pub returns-clause-many : goal.returns-clause-many
returns-clause-many g c = goes_rounds_one_way g.S.SwitchLogic.rule g.M.ManagerLogic.rule g.H.HostLogic.rule
