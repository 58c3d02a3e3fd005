use Rattle.std.proofs.Common.{◌≡◌, false, drop}
use Rattle.std.specs.List.{list_any}
use Rattle.pl_migrate.specs.PortGrants.{is_used_by}
use Rattle.pl_migrate.proofs.port_grants.newest_in_use.Given as goal

abbrev pub invariant-loop-n : goal.invariant-loop-n
invariant-loop-n l = list_any (is_used_by l.amac) (drop l.n l.tenancies) ≡ false
