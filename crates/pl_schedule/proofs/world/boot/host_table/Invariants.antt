use Rattle.std.proofs.Common.{◌≡◌, map, take}
use Rattle.pl_world.specs.Booting.{me_of}
use Rattle.pl_schedule.proofs.world.boot.host_table.Given as goal

abbrev pub invariant-loop-host : goal.invariant-loop-host
invariant-loop-host l = l.table ≡ map me_of (take l.host-index l.hosts)
