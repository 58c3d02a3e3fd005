use Rattle.std.proofs.Common.{◌<◌, arith, length}
use Rattle.pl_frame.specs.declared.address.SwitchId.{SwitchId}
use Rattle.pl_node.specs.ManagerViews.{switches}
use Rattle.pl_groups.proofs.Placed.{place_is, taken_next}
use Rattle.pl_groups.proofs.Reached.{ranked_next}
use Rattle.pl_groups.proofs.cores.reaches.Goals as goal

pub rank-requires-clause-place : goal.rank-requires-clause-place
rank-requires-clause-place c =
    let ss = c.switches-switches.result.now in let d : SwitchId = record { 0 = 0 } in
    let within : c.loop-i.i < length ss = omega arith in
    place_is c.args.reports.now c.args.all.now ss c.loop-i.i _ d c.requires.all c.switches-switches.ensures within

pub loop-i-preserved : goal.loop-i-preserved
loop-i-preserved c =
    let told = c.args.reports.now in let ss = c.switches-switches.result.now in let d : SwitchId = record { 0 = 0 } in
    let within : c.loop-i.i < length ss = omega arith in (
      ranked_next told c.args.needed.now (switches told) c.loop-i.i _ c.loop-i.reaches.items c.rank.new.reaches.items
          (taken_next told ss c.loop-i.i d c.switches-switches.ensures within) c.loop-i.invariant.0 c.in_ok-last.ensures.ranked,
      c.in_ok-last.ensures.last,
    )
