use Rattle.std.proofs.Common.{◌≡◌}
use Rattle.pl_schedule.proofs.Ticking.{heard_below}
use Rattle.pl_schedule.proofs.world.happen.count_ticks.Given as goal

abbrev pub invariant-loop-port : goal.invariant-loop-port
invariant-loop-port l = l.heard.items ≡ heard_below l.s.0 l.port l.attachments l.initial.heard.items
