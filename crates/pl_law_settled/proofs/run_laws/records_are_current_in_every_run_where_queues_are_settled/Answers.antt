use Rattle.pl_law_settled.proofs.SettledRuns.{run_current, run_links_current}
use Rattle.pl_law_settled.proofs.run_laws.records_are_current_in_every_run_where_queues_are_settled.Goals as goal

pub returns : goal.returns
returns g c = λ plan limits moments new can run queues. (
  run_current g.S.SwitchLogic.rule g.M.ManagerLogic.rule g.H.HostLogic.rule g.met.S.LooseSwitch.obeys g.met.M.LawfulManager.lawful g.met.H.HostLogic.sends g.met.H.HostLogic.owns plan limits moments new can run queues,
  run_links_current g.S.SwitchLogic.rule g.M.ManagerLogic.rule g.H.HostLogic.rule g.met.S.LooseSwitch.obeys g.met.M.LawfulManager.lawful g.met.H.HostLogic.sends g.met.H.HostLogic.owns plan limits moments new can run queues,
)
