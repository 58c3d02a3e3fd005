use Rattle.pl_law_control_plane.specs.ControlPlanes.{control_plane}
use Rattle.pl_law_pods.proofs.Exports.{known_below}
use Rattle.pl_law_invariant.proofs.KeepingControl.{run_keeps_all}
use Rattle.pl_law_invariant.proofs.kept_laws.known_pods_are_those_of_edge_switches_with_position_0_in_every_run.Goals as goal

pub returns : goal.returns
returns g c = λ plan limits moments new can run.
    let all = run_keeps_all g.H.HostLogic.rule g.met.H.HostLogic.sends g.met.H.HostLogic.owns plan limits moments new can run in
    known_below (control_plane new) all.placed all.numbered
