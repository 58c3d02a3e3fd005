use Rattle.std.proofs.Common.{◌≡◌, drop}
use Rattle.pl_world.specs.Changes.{all_noted, ends_of}
use Rattle.pl_schedule.proofs.world.World.end_all.Given as goal

abbrev pub invariant-loop-item : goal.invariant-loop-item
invariant-loop-item g l = all_noted l.self (ends_of l.cause (drop l.item-index l.items)) ≡ all_noted l.initial.self (ends_of l.cause l.items)
