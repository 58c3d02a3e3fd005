use Rattle.pl_law_invariant.proofs.KeepingControl.{step_keeps_all}
use Rattle.pl_law_invariant.proofs.kept_laws.each_step_keeps_all_of_it.Goals as goal

pub returns : goal.returns
returns g c = step_keeps_all g.H.HostLogic.rule g.met.H.HostLogic.sends g.met.H.HostLogic.owns
