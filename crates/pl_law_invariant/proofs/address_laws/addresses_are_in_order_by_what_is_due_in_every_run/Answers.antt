use Rattle.pl_law_invariant.proofs.KeepingControl.{run_keeps_all}
use Rattle.pl_law_invariant.proofs.address_laws.addresses_are_in_order_by_what_is_due_in_every_run.Goals as goal

pub returns : goal.returns
returns g c = λ plan limits moments new can run.
    (run_keeps_all g.H.HostLogic.rule g.met.H.HostLogic.sends g.met.H.HostLogic.owns plan limits moments new can run).addresses
