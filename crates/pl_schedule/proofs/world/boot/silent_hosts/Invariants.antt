use Rattle.std.proofs.Common.{◌≡◌, None, replicate}
use Rattle.pl_schedule.proofs.world.boot.silent_hosts.Given as goal

abbrev pub invariant-loop : goal.invariant-loop
invariant-loop l = l.heard.items ≡ replicate l.counter None
