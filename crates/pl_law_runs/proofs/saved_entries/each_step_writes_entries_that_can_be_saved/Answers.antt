use Rattle.std.proofs.Common.{refl}
use Rattle.pl_law_runs.proofs.Savable.{step_saves}
use Rattle.pl_law_runs.proofs.saved_entries.each_step_writes_entries_that_can_be_saved.Goals as goal

pub returns : goal.returns
returns g c = λ old event new counted none step all.
    (step_saves old.plan g.S.SwitchLogic.rule g.M.ManagerLogic.rule g.H.HostLogic.rule
    g.met.S.SwitchLogic.accounts g.met.H.HostLogic.sends old event new counted none step (record { same = refl; all = all })).all
