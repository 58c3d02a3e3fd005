use Rattle.pl_world.specs.Booting.{booted}
use Rattle.pl_world.proofs.Begun.{begun_is_within}
use Rattle.pl_world.proofs.Runs.{run_within}
use Rattle.pl_world.proofs.world_laws.each_run_stays_within_hearing.Goals as goal

pub returns : goal.returns
returns g c = λ plan limits moments new few.
    run_within g.S.SwitchLogic.rule g.M.ManagerLogic.rule g.H.HostLogic.rule g.met.M.ManagerLogic.answers
    (booted plan limits) moments new (begun_is_within plan limits few)
