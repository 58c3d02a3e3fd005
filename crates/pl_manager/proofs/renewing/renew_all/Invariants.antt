use Rattle.std.proofs.Common.{take}
use Rattle.pl_manager.specs.Telling.{AreTreesRenewed, listed_groups}
use Rattle.pl_manager.proofs.renewing.renew_all.Given as goal

abbrev pub invariant-loop-n : goal.invariant-loop-n
invariant-loop-n l = AreTreesRenewed l.reports (take l.n (listed_groups l.initial.groups)) l.initial.groups l.groups l.initial.out l.out
