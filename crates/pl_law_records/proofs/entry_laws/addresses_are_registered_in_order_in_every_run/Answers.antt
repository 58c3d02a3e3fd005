use Rattle.pl_law_records.proofs.EntryRuns.{in_first_epoch, registered_at_first, run_registered}
use Rattle.pl_law_records.proofs.Rising.{numbers_rise}
use Rattle.pl_world.specs.Booting.{booted}
use Rattle.pl_law_records.proofs.entry_laws.addresses_are_registered_in_order_in_every_run.Goals as goal

pub returns-clause-last : goal.returns-clause-last
returns-clause-last g c = λ plan limits moments new run.
    (run_registered g.S.SwitchLogic.rule g.M.ManagerLogic.rule g.H.HostLogic.rule g.met.M.ManagerLogic.answers (booted plan limits) moments new
    (registered_at_first plan limits) run).last

pub returns-clause-count : goal.returns-clause-count
returns-clause-count g c = λ plan limits moments new run.
    (run_registered g.S.SwitchLogic.rule g.M.ManagerLogic.rule g.H.HostLogic.rule g.met.M.ManagerLogic.answers (booted plan limits) moments new
    (registered_at_first plan limits) run).count

pub returns-clause-numbers : goal.returns-clause-numbers
returns-clause-numbers g c = λ plan limits moments new run.
    (run_registered g.S.SwitchLogic.rule g.M.ManagerLogic.rule g.H.HostLogic.rule g.met.M.ManagerLogic.answers (booted plan limits) moments new
    (registered_at_first plan limits) run).numbers

pub returns-clause-first : goal.returns-clause-first
returns-clause-first g c = λ plan limits moments new run none.
    in_first_epoch new
    (run_registered g.S.SwitchLogic.rule g.M.ManagerLogic.rule g.H.HostLogic.rule g.met.M.ManagerLogic.answers (booted plan limits) moments new
    (registered_at_first plan limits) run) none

pub returns-clause-rises : goal.returns-clause-rises
returns-clause-rises g c = numbers_rise g.S.SwitchLogic.rule g.M.ManagerLogic.rule g.H.HostLogic.rule g.met.M.ManagerLogic.answers
