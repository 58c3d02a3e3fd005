use Rattle.std.proofs.Common.{◌≡◌}
use Rattle.pl_node.specs.SwitchViews.{SwitchView}
use Rattle.pl_switch_rule.specs.Delivering.{last_trap}
use Rattle.pl_migrate.specs.AddressTables.{address_table_in}
use Rattle.pl_migrate.proofs.address_table.AddressTable.last_trap.Given as goal

abbrev pub invariant-loop-left : goal.invariant-loop-left
invariant-loop-left l = (v : SwitchView) → last_trap l.left (address_table_in l.self v) l.last
    ≡ last_trap l.initial.left (address_table_in l.self v) l.initial.last

abbrev pub decreases-loop-left : goal.decreases-loop-left
decreases-loop-left l = l.left
