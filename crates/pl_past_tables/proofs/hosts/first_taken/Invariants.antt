use Rattle.std.proofs.Common.{◌≡◌, not}
use Rattle.pl_journal.specs.Places.{first_edge_port}
use Rattle.pl_past_tables.specs.declared.keys.Point.{Point}
use Rattle.pl_past_tables.specs.Keys.{edge_port_at}
use Rattle.pl_past_tables.specs.Hosts.{is_left_free_by, taken_in}
use Rattle.pl_past_tables.proofs.hosts.first_taken.Given as goal

abbrev pub invariant-loop-i : goal.invariant-loop-i
invariant-loop-i l = (k : Point) → taken_in l.taken.said.entries k ≡ not (is_left_free_by (first_edge_port l.fn.wiring) (edge_port_at k) l.i)
