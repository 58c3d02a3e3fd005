use Rattle.std.proofs.Common.{◌≡◌, ◌<◌, ℕ, length, slice_get, Some}
use Rattle.pl_world_parts.specs.StaleCounts.{said_at}
use Rattle.pl_world_parts.proofs.said.all_said.Given as goal

abbrev pub invariant-loop-port : goal.invariant-loop-port
invariant-loop-port g l = record {
  many : length l.said ≡ 24;
  told : (port : ℕ) → port < l.port → slice_get l.said port ≡ Some (said_at (g.S.SwitchFacts.view l.device) port);
}
