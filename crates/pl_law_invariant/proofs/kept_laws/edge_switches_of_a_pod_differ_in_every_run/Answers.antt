use Rattle.pl_law_control_plane.specs.ControlPlanes.{control_plane}
use Rattle.pl_law_votes.proofs.Exports.{fixed_are_apart, fixed_are_held}
use Rattle.pl_law_invariant.proofs.KeepingControl.{run_keeps_all}
use Rattle.pl_law_invariant.proofs.kept_laws.edge_switches_of_a_pod_differ_in_every_run.Goals as goal

pub returns : goal.returns
returns g c = λ plan limits moments new can run.
    let all = run_keeps_all g.H.HostLogic.rule g.met.H.HostLogic.sends g.met.H.HostLogic.owns plan limits moments new can run in
    let f = control_plane new in
    (fixed_are_held f.plan f.view f.says all.counted.formed.plan all.voting, fixed_are_apart f.plan f.view f.says all.counted.formed.plan all.voting)
