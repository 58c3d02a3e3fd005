use Rattle.std.proofs.Common.{◌≡◌, ℕ, ◌<◌, false, List}
use Rattle.pl_wiring.specs.Peers.{peer_of}
use Rattle.pl_journal.specs.declared.entry.Entry.{Entry}
use Rattle.pl_past_tables.specs.Links.{KeepsLinks, leads_to_failed}
use Rattle.pl_past_tables.proofs.links.Links.has_failed_link.Given as goal

abbrev pub invariant-loop-port : goal.invariant-loop-port
invariant-loop-port l = (past : List Entry) → KeepsLinks past l.self → (q : ℕ) → q < l.port → leads_to_failed past l.s.0 (peer_of l.wiring l.s.0 q) ≡ false
