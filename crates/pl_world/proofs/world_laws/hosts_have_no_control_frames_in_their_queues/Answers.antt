use Rattle.pl_world.specs.Booting.{booted}
use Rattle.pl_world.proofs.BootBalances.{booted_is_counted}
use Rattle.pl_world.proofs.Runs.{run_is_counted}
use Rattle.pl_world.proofs.SettledQueues.{no_control_from_host}
use Rattle.pl_world.proofs.world_laws.hosts_have_no_control_frames_in_their_queues.Goals as goal

pub returns : goal.returns
returns g c = λ plan limits moments new can run.
    no_control_from_host new
    (run_is_counted g.S.SwitchLogic.rule g.M.ManagerLogic.rule g.H.HostLogic.rule g.met.S.SwitchLogic.accounts g.met.H.HostLogic.sends
    (booted plan limits) moments new (booted_is_counted plan limits can) run)
