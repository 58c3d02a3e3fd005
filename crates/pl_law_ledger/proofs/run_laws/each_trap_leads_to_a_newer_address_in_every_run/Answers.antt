use Rattle.pl_law_invariant.proofs.Exports.{run_keeps_all}
use Rattle.pl_law_ledger.proofs.Leading.{are_led}
use Rattle.pl_law_ledger.proofs.HoldsInRuns.{holds_in_run}
use Rattle.pl_law_ledger.proofs.run_laws.each_trap_leads_to_a_newer_address_in_every_run.Goals as goal

pub returns : goal.returns
returns g c = λ plan limits moments new can run few.
    are_led new (run_keeps_all g.H.HostLogic.rule g.met.H.HostLogic.sends g.met.H.HostLogic.owns plan limits moments new can run)
    (holds_in_run g.H.HostLogic.rule g.met.H.HostLogic.sends g.met.H.HostLogic.owns plan limits can moments new run few)
