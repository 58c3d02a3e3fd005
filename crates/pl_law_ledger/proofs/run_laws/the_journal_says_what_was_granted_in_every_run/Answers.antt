use Rattle.pl_law_ledger.proofs.HoldsInRuns.{holds_in_run}
use Rattle.pl_law_ledger.proofs.run_laws.the_journal_says_what_was_granted_in_every_run.Goals as goal

pub returns : goal.returns
returns g c = λ plan limits moments new can run few.
    (holds_in_run g.H.HostLogic.rule g.met.H.HostLogic.sends g.met.H.HostLogic.owns plan limits can moments new run few).entered
