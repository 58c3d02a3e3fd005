use Rattle.pl_law_addresses.proofs.Exports.{granted_at_most_once}
use Rattle.pl_law_invariant.proofs.KeepingControl.{run_keeps_all}
use Rattle.pl_law_invariant.proofs.address_laws.no_address_is_granted_again_before_it_was_freed_in_any_run.Goals as goal

pub returns : goal.returns
returns g c = λ plan limits moments new x can run.
    granted_at_most_once new (run_keeps_all g.H.HostLogic.rule g.met.H.HostLogic.sends g.met.H.HostLogic.owns plan limits moments new can run).once x
