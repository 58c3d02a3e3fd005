use Rattle.pl_law_invariant.proofs.Exports.{run_keeps_all}
use Rattle.pl_law_ledger.proofs.Exports.{holds_in_run}
use Rattle.pl_law_theorem.proofs.StepsKeepJournal.{numbers_well}
use Rattle.pl_law_theorem.proofs.run_laws.the_manager_numbers_well_in_every_run.Goals as goal

pub returns : goal.returns
returns g c = λ plan limits moments new can run few.
    numbers_well new (run_keeps_all g.H.HostLogic.rule g.met.H.HostLogic.sends g.met.H.HostLogic.owns plan limits moments new can run)
    (holds_in_run g.H.HostLogic.rule g.met.H.HostLogic.sends g.met.H.HostLogic.owns plan limits can moments new run few)
