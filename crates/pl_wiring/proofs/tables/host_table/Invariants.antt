use Rattle.std.proofs.Common.{◌≡◌, ℕ, ◌*◌, vec_len}
use Rattle.pl_wiring.specs.declared.host.Host.{Host}
use Rattle.pl_wiring.specs.Labels.{switch_count}
use Rattle.pl_wiring.specs.Plan.{IsAttachedAt}
use Rattle.pl_wiring.specs.Index.{IsIndex, look_at}
use Rattle.pl_wiring.proofs.tables.host_table.Given as goal

abbrev pub invariant-loop-number : goal.invariant-loop-number
invariant-loop-number l =
    (vec_len l.table ≡ switch_count l.k * l.k)
    × IsIndex (look_at l.k l.table.items) (λ (x : Host) (key : ℕ × ℕ). IsAttachedAt x key.0 key.1) l.hosts l.number
