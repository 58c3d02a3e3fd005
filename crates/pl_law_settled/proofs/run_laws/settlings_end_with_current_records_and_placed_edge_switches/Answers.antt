use Rattle.pl_world.specs.Booting.{booted}
use Rattle.pl_fabric.specs.declared.settling.Settling.TheVariants.{Settled}
use Rattle.pl_law_settled.proofs.SettledRuns.{run_current, run_links_current, run_placed, settled_by_run}
use Rattle.pl_law_settled.proofs.run_laws.settlings_end_with_current_records_and_placed_edge_switches.Goals as goal

pub returns-clause-records : goal.returns-clause-records
returns-clause-records g c = λ plan limits moments old asked rounds new can run settles.
    let all = settled_by_run g.S.SwitchLogic.rule g.M.ManagerLogic.rule g.H.HostLogic.rule (booted plan limits) old new moments asked (Settled rounds) run settles in (
      run_current g.S.SwitchLogic.rule g.M.ManagerLogic.rule g.H.HostLogic.rule g.met.S.LooseSwitch.obeys g.met.M.LawfulManager.lawful g.met.H.HostLogic.sends g.met.H.HostLogic.owns plan limits all.0 new can all.1 settles.answered.0.queues,
      run_links_current g.S.SwitchLogic.rule g.M.ManagerLogic.rule g.H.HostLogic.rule g.met.S.LooseSwitch.obeys g.met.M.LawfulManager.lawful g.met.H.HostLogic.sends g.met.H.HostLogic.owns plan limits all.0 new can all.1 settles.answered.0.queues,
    )

pub returns-clause-placed : goal.returns-clause-placed
returns-clause-placed g c = λ plan limits moments old asked rounds new can run settles.
    let all = settled_by_run g.S.SwitchLogic.rule g.M.ManagerLogic.rule g.H.HostLogic.rule (booted plan limits) old new moments asked (Settled rounds) run settles in
    run_placed g.S.SwitchLogic.rule g.M.ManagerLogic.rule g.H.HostLogic.rule g.met.S.LooseSwitch.obeys g.met.M.LawfulManager.lawful g.met.H.HostLogic.sends g.met.H.HostLogic.owns plan limits all.0 new can all.1 settles.answered.0
