use Rattle.pl_law_invariant.proofs.Exports.{run_keeps_all}
use Rattle.pl_law_ledger.proofs.LedgerInRuns.{in_bounds}
use Rattle.pl_law_ledger.proofs.run_laws.pods_and_positions_are_of_one_byte_in_every_run.Goals as goal

pub returns : goal.returns
returns g c = λ plan limits moments new can run.
    in_bounds new (run_keeps_all g.H.HostLogic.rule g.met.H.HostLogic.sends g.met.H.HostLogic.owns plan limits moments new can run)
