use Rattle.std.proofs.Common.{◌<◌, ◌/◌, arith, below_more}
use Rattle.pl_wiring.specs.LiveLinks.{IsLive}
use Rattle.pl_wiring.proofs.Climbing.{Rises-at, uplink_of_rise, one_uplink}
use Rattle.pl_wiring.proofs.wiring.Wiring.live_above_both.Goals as goal

pub returns-in-Some-clause-found : goal.returns-in-Some-clause-found
returns-in-Some-clause-found c =
    let plan = c.args.self.now in
    let live = IsLive c.args.links.now in
    let less : c.loop-uplink.uplink < c.args.self.now.k / 2 = omega (arith, c.k.ensures.k, c.half-uplink-end.ensures) in
    let found = c.in-Some.ensures.found in (
      Rises-at plan live c.args.a c.loop-uplink.uplink c.in-Some.top c.k.ensures.plan c.requires.a less found.0,
      Rises-at plan live c.args.b c.loop-uplink.uplink c.in-Some.top c.k.ensures.plan c.requires.b less found.1,
    )

pub loop-uplink-preserved : goal.loop-uplink-preserved
loop-uplink-preserved c = below_more _ _ c.loop-uplink.invariant c.in_default.ensures.none

pub returns-clause-none : goal.returns-clause-none
returns-clause-none c = λ top from_a from_b.
    let plan = c.args.self.now in
    let live = IsLive c.args.links.now in
    let x = uplink_of_rise plan live c.args.a top c.k.ensures.plan from_a in
    let y = uplink_of_rise plan live c.args.b top c.k.ensures.plan from_b in
    let same = one_uplink plan live c.args.a c.args.b x.0 y.0 top c.k.ensures.plan c.requires.a c.requires.b x.1 y.1 x.2 y.2 in
    let less : x.0 < c.loop-uplink.uplink = omega (arith, x.1, c.k.ensures.k, c.half-uplink-end.ensures) in
    c.loop-uplink.invariant x.0 less top x.2 (rw same y.2)
