use Rattle.std.proofs.Common.{◌≡◌, map, take}
use Rattle.pl_node.specs.SwitchFacts.{switch_at_boot}
use Rattle.pl_schedule.proofs.world.boot.boot_switches.Given as goal

abbrev pub invariant-loop-n : goal.invariant-loop-n
invariant-loop-n g l = map g.S.SwitchFacts.view l.devices.items ≡ take l.n (map (λ id. switch_at_boot id l.wiring.k) l.wiring.ids)
