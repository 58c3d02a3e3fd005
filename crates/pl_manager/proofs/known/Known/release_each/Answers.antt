use Rattle.std.proofs.Common.{◌<◌, length, refl, arith}
use Rattle.pl_registry.specs.Learning.{acts_of_release}
use Rattle.pl_manager.proofs.Turns.{release_next}
use Rattle.pl_manager.proofs.known.Known.release_each.Goals as goal

pub loop-pmac-init : goal.loop-pmac-init
loop-pmac-init c = (λ v. refl, refl)

pub loop-pmac-preserved : goal.loop-pmac-preserved
loop-pmac-preserved c =
    let within : c.loop-pmac.pmac-index < length c.args.those.now = omega arith in
    let so = release_next c.args.self.now c.loop-pmac.self c.args.those.now c.loop-pmac.pmac-index _ c.args.out.now c.loop-pmac.out c.tell_release.new.out
    (acts_of_release c.release.result) c.release.new.self within c.loop-pmac.invariant.0 c.release.ensures.learnt c.release.ensures.acts
    c.in_ok-tell_release.ensures in
    (so, c.loop-pmac.invariant.1)
