use Rattle.pl_past.proofs.MovesByNumbers.{edge_by_tables, moved_by_numbers}
use Rattle.pl_past.proofs.laws.moves_and_edges_by_numbers_and_tables.Goals as goal

pub returns : goal.returns
returns c = record { moved = moved_by_numbers; edge = edge_by_tables }
