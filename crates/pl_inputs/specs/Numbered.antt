-- A host by its number in the list of hosts.
use Rattle.std.specs.Prelude.{ℕ}
use Rattle.pl_wiring.specs.declared.host.HostNo.{HostNo}

abbrev pub number_of : HostNo → ℕ
number_of host = host.0
