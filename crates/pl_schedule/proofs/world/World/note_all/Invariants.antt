use Rattle.std.proofs.Common.{◌≡◌, length}
use Rattle.pl_world.specs.Changes.{all_noted}
use Rattle.pl_schedule.proofs.world.World.note_all.Given as goal

abbrev pub invariant-loop-entry : goal.invariant-loop-entry
invariant-loop-entry g l = all_noted l.self l.entries ≡ all_noted l.initial.self l.initial.entries

abbrev pub decreases-loop-entry : goal.decreases-loop-entry
decreases-loop-entry g l = length l.entries
