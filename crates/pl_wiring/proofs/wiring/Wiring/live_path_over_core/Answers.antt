use Rattle.std.proofs.Common.{◌<◌, arith, below_more}
use Rattle.pl_wiring.specs.LiveLinks.{IsLive}
use Rattle.pl_wiring.proofs.Climbing.{no_way}
use Rattle.pl_wiring.proofs.wiring.Wiring.live_path_over_core.Goals as goal

pub loop-uplink-preserved : goal.loop-uplink-preserved
loop-uplink-preserved c = below_more _ _ c.loop-uplink.invariant c.in_default.ensures.none

pub returns-clause-none : goal.returns-clause-none
returns-clause-none c = λ path is.
    no_way c.args.self.now (IsLive c.args.links.now) c.args.start c.args.end c.k.ensures.plan c.requires.start c.requires.end c.requires.apart c.requires.not_below
    (λ uplink less. let inside : uplink < c.loop-uplink.uplink = omega (arith, less, c.k.ensures.k, c.half-uplink-end.ensures) in c.loop-uplink.invariant uplink inside)
    is.up is.top is.down is.starts is.ends is.climbs is.falls is.as_many is.two_at_most
