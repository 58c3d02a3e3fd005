use Rattle.std.proofs.Common.{ℕ, ◌<◌}
use Rattle.pl_wiring.specs.Paths.{NeverMeetOver}
use Rattle.pl_wiring.proofs.wiring.Wiring.live_path_over_core.Given as goal

abbrev pub invariant-loop-uplink : goal.invariant-loop-uplink
invariant-loop-uplink l = (x : ℕ) → x < l.uplink → NeverMeetOver l.self l.links l.start l.end x
