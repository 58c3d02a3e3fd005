use Rattle.std.proofs.Common.{◌≡◌, ℕ, ◌*◌, vec_len}
use Rattle.pl_wiring.specs.declared.link.Link.{Link}
use Rattle.pl_wiring.specs.Labels.{switch_count}
use Rattle.pl_wiring.specs.FatTree.{IsAt}
use Rattle.pl_wiring.specs.Index.{IsIndex, look_at}
use Rattle.pl_wiring.proofs.tables.link_table.Given as goal

abbrev pub invariant-loop-number : goal.invariant-loop-number
invariant-loop-number l =
    (vec_len l.table ≡ switch_count l.k * l.k)
    × IsIndex (look_at l.k l.table.items) (λ (x : Link) (key : ℕ × ℕ). IsAt x key.0 key.1) l.links l.number
