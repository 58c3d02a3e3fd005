use Rattle.std.proofs.Common.{arith}
use Rattle.pl_wiring.specs.Labels.{switch_count}
use Rattle.pl_wiring.proofs.Entered.{port_index-below}
use Rattle.pl_wiring.proofs.tables.look_at.Goals as goal

pub bounds-table-index_in_table : goal.bounds-table-index_in_table
bounds-table-index_in_table c =
    let below = port_index-below c.args.k c.args.switch.0 c.args.port (switch_count c.args.k) c.requires.switch c.requires.port in
    omega (arith, below, c.requires.long, c.index_in_table.ensures)
