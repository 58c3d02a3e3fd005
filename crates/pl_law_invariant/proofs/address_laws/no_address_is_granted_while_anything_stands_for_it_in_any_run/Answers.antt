use Rattle.pl_law_invariant.proofs.GrantsInRuns.{granted_for_nothing}
use Rattle.pl_law_invariant.proofs.address_laws.no_address_is_granted_while_anything_stands_for_it_in_any_run.Goals as goal

pub returns : goal.returns
returns g c = λ plan limits moments more old new x can run rest given freed.
    granted_for_nothing g.H.HostLogic.rule g.met.H.HostLogic.sends g.met.H.HostLogic.owns plan limits can moments more old new run rest x given freed
