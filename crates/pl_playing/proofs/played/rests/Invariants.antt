use Rattle.std.proofs.Common.{◌≡◌, ◌++◌, length, drop}
use Rattle.pl_inputs.specs.Loaded.{files_of}
use Rattle.pl_playing.specs.Outcomes.{rests_from}
use Rattle.pl_playing.proofs.played.rests.Given as goal

abbrev pub invariant-loop-n : goal.invariant-loop-n
invariant-loop-n g l = record {
  rests : l.rests.items ++ rests_from l.n (files_of (drop l.n l.captures)) l.fabric
      ≡ rests_from 0 (files_of l.captures) l.fabric;
  many : length l.rests.items ≡ l.n;
}
