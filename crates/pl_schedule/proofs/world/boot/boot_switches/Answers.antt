use Rattle.std.proofs.Common.{map, ◌∙◌, ap}
use Rattle.pl_node.specs.SwitchFacts.{switch_at_boot}
use Rattle.pl_world.proofs.Exports.{booted_more}
use Rattle.pl_schedule.proofs.world.boot.boot_switches.Goals as goal

pub loop-n-preserved : goal.loop-n-preserved
loop-n-preserved g c =
    ap (map g.S.SwitchFacts.view) c.in_ok-push.ensures.items
    ∙ booted_more g.S.SwitchFacts.view c.loop-n.devices.items c.in_ok-boot_switch.field-0
    (map (λ id. switch_at_boot id c.args.wiring.now.k) c.args.wiring.now.ids) c.loop-n.n c.loop-n.invariant c.in_ok-boot_switch.ensures
