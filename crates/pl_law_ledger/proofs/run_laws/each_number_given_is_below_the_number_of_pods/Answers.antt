use Rattle.pl_law_control_plane.specs.ControlPlanes.{control_plane}
use Rattle.pl_law_invariant.proofs.Exports.{run_keeps_all}
use Rattle.pl_law_pods.proofs.Exports.{pods_below}
use Rattle.pl_law_ledger.proofs.run_laws.each_number_given_is_below_the_number_of_pods.Goals as goal

pub returns : goal.returns
returns g c = λ plan limits moments new can run.
    let all = run_keeps_all g.H.HostLogic.rule g.met.H.HostLogic.sends g.met.H.HostLogic.owns plan limits moments new can run in
    pods_below (control_plane new) all.counted.formed.plan all.gathered all.numbered
