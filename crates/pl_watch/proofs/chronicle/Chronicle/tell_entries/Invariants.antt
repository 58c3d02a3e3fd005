use Rattle.std.proofs.Common.{◌≡◌}
use Rattle.pl_watch.specs.Seen.{HasSeen}
use Rattle.pl_watch.proofs.chronicle.Chronicle.tell_entries.Given as goal

abbrev pub invariant-loop-n : goal.invariant-loop-n
invariant-loop-n g l =
    (l.self.entries ≡ l.n) × (l.self.look ≡ l.fn.self.look) × HasSeen g.S.SwitchLogic.rule g.M.ManagerLogic.rule g.H.HostLogic.rule l.self l.world
