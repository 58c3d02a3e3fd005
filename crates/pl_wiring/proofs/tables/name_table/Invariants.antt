use Rattle.std.proofs.Common.{◌≡◌, ℕ, List}
use Rattle.std.specs.HashMap.{get_by_text}
use Rattle.pl_wiring.specs.declared.host.Host.{Host}
use Rattle.pl_wiring.specs.Index.{IsIndex}
use Rattle.pl_wiring.proofs.tables.name_table.Given as goal

abbrev pub invariant-loop-number : goal.invariant-loop-number
invariant-loop-number l = IsIndex (get_by_text l.names) (λ (h : Host) (text : List ℕ). h.name ≡ text) l.hosts l.number
