use Rattle.pl_law_settled.proofs.SettledRuns.{run_current, run_first, run_links_current, run_placed, run_positions}
use Rattle.pl_law_settled.proofs.run_laws.settled_runs_have_current_records_and_positions.Goals as goal

pub returns-clause-records : goal.returns-clause-records
returns-clause-records g c = λ plan limits moments new can run settled. (
  run_current g.S.SwitchLogic.rule g.M.ManagerLogic.rule g.H.HostLogic.rule g.met.S.LooseSwitch.obeys g.met.M.LawfulManager.lawful g.met.H.HostLogic.sends g.met.H.HostLogic.owns plan limits moments new can run settled.queues,
  run_links_current g.S.SwitchLogic.rule g.M.ManagerLogic.rule g.H.HostLogic.rule g.met.S.LooseSwitch.obeys g.met.M.LawfulManager.lawful g.met.H.HostLogic.sends g.met.H.HostLogic.owns plan limits moments new can run settled.queues,
)

pub returns-clause-positions : goal.returns-clause-positions
returns-clause-positions g c = λ plan limits moments new can run. run_positions g.S.SwitchLogic.rule g.M.ManagerLogic.rule g.H.HostLogic.rule g.met.S.LooseSwitch.obeys g.met.M.LawfulManager.lawful g.met.H.HostLogic.sends g.met.H.HostLogic.owns plan limits moments new can run

pub returns-clause-first : goal.returns-clause-first
returns-clause-first g c = λ plan limits moments new can run. run_first g.S.SwitchLogic.rule g.M.ManagerLogic.rule g.H.HostLogic.rule g.met.S.LooseSwitch.obeys g.met.M.LawfulManager.lawful g.met.H.HostLogic.sends g.met.H.HostLogic.owns plan limits moments new can run

pub returns-clause-placed : goal.returns-clause-placed
returns-clause-placed g c = λ plan limits moments new can run. run_placed g.S.SwitchLogic.rule g.M.ManagerLogic.rule g.H.HostLogic.rule g.met.S.LooseSwitch.obeys g.met.M.LawfulManager.lawful g.met.H.HostLogic.sends g.met.H.HostLogic.owns plan limits moments new can run
