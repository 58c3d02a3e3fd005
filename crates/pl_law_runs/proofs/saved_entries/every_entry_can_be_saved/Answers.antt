use Rattle.pl_world.specs.Booting.{booted}
use Rattle.pl_world.proofs.Exports.{booted_is_counted}
use Rattle.pl_law_runs.proofs.Savable.{begins_savable, run_saves}
use Rattle.pl_law_runs.proofs.saved_entries.every_entry_can_be_saved.Goals as goal

pub returns : goal.returns
returns g c = λ plan limits moments new can run.
    (run_saves plan g.S.SwitchLogic.rule g.M.ManagerLogic.rule g.H.HostLogic.rule g.met.S.SwitchLogic.accounts g.met.H.HostLogic.sends
    (booted plan limits) moments new (booted_is_counted plan limits can) (begins_savable plan limits) run).all
