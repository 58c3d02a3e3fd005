use Rattle.std.proofs.Common.{◌≡◌, filter_map, take}
use Rattle.pl_manager_rule.specs.Reports.{leads_known}
use Rattle.pl_manager.proofs.known.led_by.Given as goal

abbrev pub invariant-loop-pmac : goal.invariant-loop-pmac
invariant-loop-pmac l = l.led.items ≡ filter_map (leads_known l.registry) (take l.pmac-index l.aged)
