use Rattle.pl_law_executions.proofs.Rests.{settles_one_way, settles_unrefused}
use Rattle.pl_law_executions.proofs.execution_laws.a_settling_goes_one_way.Goals as goal

pub returns-clause-answer : goal.returns-clause-answer
returns-clause-answer g c = settles_one_way g.S.SwitchLogic.rule g.M.ManagerLogic.rule g.H.HostLogic.rule

pub returns-clause-unrefused : goal.returns-clause-unrefused
returns-clause-unrefused g c = settles_unrefused g.S.SwitchLogic.rule g.M.ManagerLogic.rule g.H.HostLogic.rule
