use Rattle.pl_tables.proofs.LeadsMoved.{AreFollowed}
use Rattle.pl_tables.proofs.following.follow.Given as goal

abbrev pub invariant-loop-port : goal.invariant-loop-port
invariant-loop-port g l = AreFollowed (g.F.SwitchFacts.view l.facts) l.leads l.tables l.port
