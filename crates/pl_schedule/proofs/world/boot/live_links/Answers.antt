use Rattle.pl_world.proofs.Exports.{all_are_live}
use Rattle.pl_schedule.proofs.world.boot.live_links.Goals as goal

pub returns : goal.returns
returns c = all_are_live c.args.wiring.now c.in_ok-links.links c.k-k.ensures.plan c.in_ok-links.ensures.made_for c.in_ok-links.ensures.live
