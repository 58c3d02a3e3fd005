use Rattle.std.proofs.Common.{◌≡◌, map, take}
use Rattle.pl_world.specs.Booting.{first_attachment}
use Rattle.pl_world_parts.specs.Attachments.{TellsWhoIsAttached}
use Rattle.pl_world_parts.proofs.attachments.Attachments.first.Given as goal

abbrev pub invariant-loop-n : goal.invariant-loop-n
invariant-loop-n l = record {
  so_far : l.attachments.items ≡ map first_attachment (take l.n l.hosts);
  tells : TellsWhoIsAttached l.attachments.items l.by_port.entries;
}
