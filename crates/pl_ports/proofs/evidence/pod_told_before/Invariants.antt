use Rattle.std.proofs.Common.{◌≡◌, drop}
use Rattle.pl_ports.proofs.PodsTold.{first_told}
use Rattle.pl_ports.proofs.evidence.pod_told_before.Given as goal

abbrev pub invariant-loop-record : goal.invariant-loop-record
invariant-loop-record l = first_told (drop l.record-index l.records) ≡ first_told l.records
