use Rattle.std.proofs.Common.{◌≡◌, ℕ, ◌<◌, length, get_or}
use Rattle.pl_wiring.specs.declared.host.Host.{Host}
use Rattle.pl_schedule.proofs.world.boot.see_each.Given as goal

abbrev pub invariant-loop-host : goal.invariant-loop-host
invariant-loop-host l = (n : ℕ) (d : Host) → n < l.host-index → length (get_or l.hosts n d).mac.0 ≡ 6
