use Rattle.std.proofs.Common.{arith, not}
use Rattle.std.proofs.lemmas.Grind.{common_steps}
use Rattle.pl_frame.specs.declared.address.SwitchId.{SwitchId}
use Rattle.pl_layouts.specs.Equality.{same_switch}
use Rattle.pl_reports.proofs.Sorting.{passing_done, passing_next}
use Rattle.pl_reports.proofs.edges.without.Goals as goal

pub loop-other-preserved : goal.loop-other-preserved
loop-other-preserved c =
    passing_next (λ (t : SwitchId). not (same_switch t c.args.switch)) c.args.switches.now c.loop-other.other-index _ c.loop-other.list c.add_if.new.list _
    (grind (arith, common_steps)) c.loop-other.invariant c.in_ok-add_if.ensures c.ne-passes.ensures

pub returns : goal.returns
returns c =
    passing_done (λ (t : SwitchId). not (same_switch t c.args.switch)) c.args.switches.now c.loop-other.other-index c.loop-other.list
    c.loop-other-test.false c.loop-other.invariant c.requires
