use Rattle.std.proofs.Common.{subst}
use Rattle.std.proofs.lemmas.List.{take_all}
use Rattle.pl_frame.specs.declared.address.SwitchId.{SwitchId}
use Rattle.pl_faults.specs.Missed.{AreMissesRenewed}
use Rattle.pl_faults.proofs.Missing.{misses_more, none_missed_anew}
use Rattle.pl_faults.proofs.missed.renew_misses.Goals as goal

pub loop-switch-init : goal.loop-switch-init
loop-switch-init c reach = none_missed_anew c.args.reports.now c.args.edges.now c.args.misses.now.entries c.new-changed.result

pub loop-switch-preserved : goal.loop-switch-preserved
loop-switch-preserved c reach =
    let d : SwitchId = record { 0 = 0 } in
    misses_more c.args.reports.now c.args.edges.now c.args.asked.now c.loop-switch.switch-index d c.loop-switch-test.true
    c.args.misses.now.entries c.loop-switch.misses.entries c.put_missed.new.misses.entries c.loop-switch.changed c.put_missed.new.changed
    c.in_ok-missed.missed (c.loop-switch.invariant reach) (c.in_ok-missed.ensures reach)
    c.in_ok-put_missed.ensures.now c.in_ok-put_missed.ensures.stays c.in_ok-put_missed.ensures.same

pub returns : goal.returns
returns c reach =
    subst (λ xs. AreMissesRenewed c.args.reports.now c.args.edges.now xs c.args.misses.now.entries c.loop-switch.misses.entries c.loop-switch.changed)
    (take_all c.loop-switch.switch-index c.args.asked.now c.loop-switch-test.false) (c.loop-switch.invariant reach)
