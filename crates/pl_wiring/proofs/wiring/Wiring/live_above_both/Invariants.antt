use Rattle.std.proofs.Common.{ℕ, ◌<◌}
use Rattle.pl_wiring.specs.Paths.{NeverMeetAt}
use Rattle.pl_wiring.proofs.wiring.Wiring.live_above_both.Given as goal

abbrev pub invariant-loop-uplink : goal.invariant-loop-uplink
invariant-loop-uplink l = (x : ℕ) → x < l.uplink → NeverMeetAt l.self l.links l.a l.b x
