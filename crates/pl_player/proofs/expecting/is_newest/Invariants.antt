use Rattle.std.proofs.Common.{reverse, take}
use Rattle.pl_player.specs.Newest.{IsReadOf}
use Rattle.pl_player.proofs.expecting.is_newest.Given as goal

abbrev pub invariant-loop-entry : goal.invariant-loop-entry
invariant-loop-entry l = IsReadOf l.fn.h l.fn.pmac (reverse (take l.entry-index l.journal)) l.addresses
