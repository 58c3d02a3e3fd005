use Rattle.std.proofs.Common.{◌≡◌, map, take}
use Rattle.pl_node.specs.HostViews.{boot_host}
use Rattle.pl_world.specs.Booting.{me_of}
use Rattle.pl_schedule.proofs.world.boot.boot_hosts.Given as goal

abbrev pub invariant-loop-host : goal.invariant-loop-host
invariant-loop-host g l = map g.H.HostLogic.view l.devices.items ≡ map (λ host. boot_host (me_of host) l.table) (take l.host-index l.hosts)
