use Rattle.std.proofs.Common.{◌≡◌, ◌++◌, map, take, drop}
use Rattle.pl_node.specs.PortRecords.{aged}
use Rattle.pl_ports.proofs.ports.age_all.Given as goal

abbrev pub invariant-loop-i : goal.invariant-loop-i
invariant-loop-i l = l.records ≡ map aged (take l.i l.initial.records) ++ drop l.i l.initial.records
