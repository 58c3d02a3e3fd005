use Rattle.std.proofs.Common.{◌≡◌, ◌++◌}
use Rattle.pl_switch_rule.specs.Reporting.{each_told}
use Rattle.pl_migrate.proofs.Reported.{left_to_tell}
use Rattle.pl_migrate.proofs.address_table.AddressTable.report_port.Given as goal

abbrev pub invariant-loop-n : goal.invariant-loop-n
invariant-loop-n l = l.out ++ each_told (left_to_tell l.which l.self l.port l.n) ≡ l.initial.out ++ each_told (left_to_tell l.which l.self l.port 0)
