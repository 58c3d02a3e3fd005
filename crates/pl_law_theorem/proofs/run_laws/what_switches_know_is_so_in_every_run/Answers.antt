use Rattle.pl_law_invariant.proofs.Exports.{run_keeps_all}
use Rattle.pl_law_ledger.proofs.Exports.{holds_in_run}
use Rattle.pl_law_theorem.proofs.Hosting.{stands_on, stands_on_hosts}
use Rattle.pl_law_theorem.proofs.run_laws.what_switches_know_is_so_in_every_run.Goals as goal

pub returns-clause-addresses : goal.returns-clause-addresses
returns-clause-addresses g c = λ plan limits moments new can run few.
    stands_on new (run_keeps_all g.H.HostLogic.rule g.met.H.HostLogic.sends g.met.H.HostLogic.owns plan limits moments new can run)
    (holds_in_run g.H.HostLogic.rule g.met.H.HostLogic.sends g.met.H.HostLogic.owns plan limits can moments new run few)

pub returns-clause-hosts : goal.returns-clause-hosts
returns-clause-hosts g c = λ plan limits moments new can run few.
    stands_on_hosts new (run_keeps_all g.H.HostLogic.rule g.met.H.HostLogic.sends g.met.H.HostLogic.owns plan limits moments new can run)
    (holds_in_run g.H.HostLogic.rule g.met.H.HostLogic.sends g.met.H.HostLogic.owns plan limits can moments new run few).entered
