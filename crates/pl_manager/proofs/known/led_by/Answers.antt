use Rattle.std.proofs.Common.{◌≡◌, ◌<◌, ◌++◌, [], Option, length, ap, arith, ◌∙◌}
use Rattle.std.specs.List.{cons_option}
use Rattle.pl_pmac.specs.declared.pmac.Pmac.{Pmac}
use Rattle.pl_manager.proofs.Turns.{led_next}
use Rattle.pl_manager.proofs.known.led_by.Goals as goal

pub loop-pmac-preserved : goal.loop-pmac-preserved
loop-pmac-preserved c =
    let within : c.loop-pmac.pmac-index < length c.args.aged.now = omega arith in
    led_next c.args.registry.now c.args.aged.now c.loop-pmac.pmac-index _ c.loop-pmac.led.items c.add_some.new.list.items within c.loop-pmac.invariant
    (c.in_ok-add_some.ensures ∙ ap (λ (o : Option Pmac). c.loop-pmac.led.items ++ cons_option o []) c.leads_to.ensures)
