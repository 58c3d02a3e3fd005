use Rattle.pl_law_invariant.proofs.KeepingControl.{runs_are_grounded}
use Rattle.pl_law_invariant.proofs.address_laws.placed_edge_switches_stand_apart_in_every_run.Goals as goal

pub returns : goal.returns
returns g c = runs_are_grounded g.H.HostLogic.rule g.met.H.HostLogic.sends g.met.H.HostLogic.owns
