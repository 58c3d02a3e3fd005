use Rattle.pl_law_settled.proofs.SettledRuns.{run_agrees}
use Rattle.pl_law_settled.proofs.vote_laws.a_proposal_sent_again_changes_nothing_exactly_where_the_rows_leave_both.Goals as goal

pub returns : goal.returns
returns g c = λ plan limits moments new can run. run_agrees g.S.SwitchLogic.rule g.M.ManagerLogic.rule g.H.HostLogic.rule g.met.S.LooseSwitch.obeys g.met.M.LawfulManager.lawful g.met.H.HostLogic.sends g.met.H.HostLogic.owns plan limits moments new can run
