use Rattle.std.proofs.Common.{◌≡◌, None, take}
use Rattle.std.specs.List.{find}
use Rattle.pl_layouts.specs.Equality.{same_mac}
use Rattle.pl_host.proofs.owners.first_with.Given as goal

abbrev pub invariant-loop-host : goal.invariant-loop-host
invariant-loop-host l = find (λ host. same_mac host.mac l.mac) (take l.host-index l.hosts) ≡ None
